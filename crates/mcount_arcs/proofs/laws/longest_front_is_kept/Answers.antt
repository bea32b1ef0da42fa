use Rattle.mcount_arcs.proofs.KeptCallLemmas.{kept_calls-front, kept_calls-places, kept_calls-longest, kept_calls-all}
use Rattle.mcount_arcs.proofs.laws.longest_front_is_kept.Goals as goal

pub returns : goal.returns
returns c = record { front = kept_calls-front; places = kept_calls-places; longest = kept_calls-longest; all = kept_calls-all }
