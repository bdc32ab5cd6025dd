-- What the reads got is what the work takes. Assumes nothing.
use mathlib.Core.Path.{◌≡◌, ◌∙◌}
use mathlib.Core.List.{List}
use Prim.Native.Nat.{ℕ}
use native.Mathlib.Omega.{arith}
use lib.ListN.{length, take}
use lib.Seq.{length-take-le}
use Rattle.map_work.specs.Steps.{Kept}
use Rattle.map_run.specs.Reading.{Got}

pub got_kept : {n : ℕ} {input spare : List ℕ} {kept more : ℕ} → Got n input spare kept more → n ≡ 32768 → Kept (length (take kept input)) (length (take more spare))
got_kept {input = input} {spare = spare} {kept = kept} {more = more} g e =
    let k = length-take-le kept input g.kept_in in
    let m = length-take-le more spare g.more-in in
    record {
      most = rw k (omega (arith, g.kept_in, g.room, e));
      full = λ l. k ∙ g.full (rw m at l) ∙ e;
    }
