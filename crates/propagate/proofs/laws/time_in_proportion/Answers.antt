use Rattle.propagate.proofs.ProportionLemmas.{parts_near, parts_all}
use Rattle.propagate.proofs.laws.time_in_proportion.Goals as goal

pub returns : goal.returns
returns c = record {
  parts = λ g shares t i is flow low out. parts_near g shares t is flow i low out;
  whole = λ g shares t d is flow low some. parts_all g shares t is flow d some;
}
