-- The last line, behind what was done.
use Rattle.std.proofs.Common.{ℕ, List, take, Result, Ok, Err, inl, inr, refl}
use Rattle.host_port.specs.Outside.{Outside}
use Rattle.host_port.specs.Host.{Puts}
use Rattle.host_port.specs.declared.side.Side.TheVariants.{ErrorOutput}
use Rattle.courses.specs.Contract.{LineIsPrinted}

-- it was printed, or a prefix of it
pub printed : {E : Type 0} (text : List ℕ) (mid new : Outside) (r : Result (Unit {0}) E) → Puts ErrorOutput text mid new r
    → LineIsPrinted text mid new
printed text mid new (Ok u) puts = record {
  line = text;
  did = puts.takes.done;
  ends = inl (refl, puts.counts.own);
  read = puts.counts.read;
  write = puts.counts.write;
  last = puts.last refl;
}
printed text mid new (Err e) puts =
    let n = puts.takes.part.0 in
    record {
      line = take n text;
      did = puts.takes.part.2;
      ends = inr ((n, puts.takes.part.1, refl), puts.counts.own);
      read = puts.counts.read;
      write = puts.counts.write;
      last = puts.last refl;
    }
