use mathlib.Core.Path.{sym, ◌∙◌}
use native.Mathlib.Omega.{arith}
use Rattle.multibspline.proofs.Line.{line-short, no-uppers, no-rights, no_line, line-passed}
use Rattle.multibspline.proofs.checks.check_line.Goals as goal

pub returns-then-n-lt4 : goal.returns-then-n-lt4
returns-then-n-lt4 c = search line-short

pub returns-then-longest-n : goal.returns-then-longest-n
returns-then-longest-n c = search no-uppers

pub returns-then-scratch-longest : goal.returns-then-scratch-longest
returns-then-scratch-longest c = no-rights _ _ _ _ _ _ c.if-n-lt4.false c.if-longest-n.false (omega arith)

pub returns-then-scratch-longest-2 : goal.returns-then-scratch-longest-2
returns-then-scratch-longest-2 c = no-rights _ _ _ _ _ _ c.if-n-lt4.false c.if-longest-n.false (omega arith)

pub returns-then-not-ends_within : goal.returns-then-not-ends_within
returns-then-not-ends_within c =
    no_line _ _ _ _ _ _ c.if-n-lt4.false c.if-longest-n.false (omega arith) (sym c.ends_within.ensures ∙ c.if-not-ends_within.true)

pub returns : goal.returns
returns c =
    line-passed _ _ _ _ _ _ c.if-n-lt4.false c.if-longest-n.false (omega arith) (sym c.ends_within.ensures ∙ c.if-not-ends_within.false)
