use Rattle.std.proofs.Common.{unwrap_or, arith, rules}
use Rattle.std.proofs.lemmas.Bool.{lt-ltb}
use Rattle.gmon_data.proofs.ContentLemmas.{hist_within, like_kept, with_hist_is}
use Rattle.gmon_data.proofs.HistLemmas.{all_kept, alike_counters, apart_put, hists-within, samples-put, unit_put}
use Rattle.gmon_data.proofs.NumberLemmas.{hists_fit}
use Rattle.gmon_data.proofs.profile.Profile.keep.Goals as goal

pub put-requires-clause-few : goal.put-requires-clause-few
put-requires-clause-few c = omega (arith, hists-within c.self.inside.hists c.self.invariant.hists, c.self.invariant.within.counters)

pub put-requires-clause-same : goal.put-requires-clause-same
put-requires-clause-same c = search (alike_counters, like_kept, rules)

pub put-requires-clause-fits : goal.put-requires-clause-fits
put-requires-clause-fits c = search (hist_within, lt-ltb, samples-put, rules)

pub invariant_of-self-2 : goal.invariant_of-self-2
invariant_of-self-2 c = search (hist_within, lt-ltb, like_kept, hists_fit, all_kept, apart_put, unit_put, rules)

pub returns-clause-added : goal.returns-clause-added
returns-clause-added c = search (unwrap_or, with_hist_is, lt-ltb, rules)
