use Rattle.std.proofs.Common.{ℕ, ◌+◌, ◌*◌, ◌<◌}
use Rattle.oracle_match.specs.Queries.{PartAgrees}
use Rattle.oracle_match.proofs.queries.parts_agree.Given as goal

-- the parts before this one agree
abbrev pub invariant-loop-k : goal.invariant-loop-k
invariant-loop-k l = (j : ℕ) → j < l.k → PartAgrees l.text (l.at + j * l.n) j l.count l.fn.parts
