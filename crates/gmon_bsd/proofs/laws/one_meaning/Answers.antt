use Rattle.gmon_bsd.proofs.FieldLemmas.{spelled_of}
use Rattle.gmon_bsd.proofs.SpellingLemmas.{accepted_where_spelled, only_where_spelled}
use Rattle.gmon_bsd.proofs.laws.one_meaning.Goals as goal

pub returns : goal.returns
returns c = search (spelled_of, accepted_where_spelled, only_where_spelled)
