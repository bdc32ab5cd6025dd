use Rattle.std.proofs.Common.{below_more}
use Rattle.oracle_list.proofs.CellLaws.{Counting-at, Counting-step}
use Rattle.oracle_match.proofs.batches.are_written_or.Goals as goal

pub loop-i-preserved : goal.loop-i-preserved
loop-i-preserved c =
    let inv = c.loop-i.invariant in
    let l = c.loop-i-test.true in
    record {
      counts = Counting-step _ _ _ _ _ inv.counts l;
      done = below_more _ _ inv.done (rw (Counting-at _ _ _ _ _ inv.counts l) (c.is_written_or.ensures c.if-not-is_written_or.false));
    }
