use Rattle.demo_laws.proofs.Accepting.{file_accepted}
use Rattle.demo_laws.proofs.ImageLemmas.{image_read}
use Rattle.demo_laws.proofs.laws.programs_are_read_back.Goals as goal

pub returns : goal.returns
returns c = λ words symbols program. (file_accepted words symbols program, image_read words symbols program)
