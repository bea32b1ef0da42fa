use Rattle.gmon_gnu.proofs.MeaningLemmas.{spelled_of}
use Rattle.gmon_gnu.proofs.SpellingLemmas.{accepted_where_spelled, only_where_spelled}
use Rattle.gmon_gnu.proofs.laws.one_meaning.Goals as goal

pub returns : goal.returns
returns c = search (spelled_of, accepted_where_spelled, only_where_spelled)
