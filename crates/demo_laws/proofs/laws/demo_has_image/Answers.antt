use Rattle.demo_laws.proofs.DemoLemmas.{demo_image_read, demo_symbols_read}
use Rattle.demo_laws.proofs.laws.demo_has_image.Goals as goal

pub returns-clause-image : goal.returns-clause-image
returns-clause-image c = demo_image_read

pub returns-clause-symbols : goal.returns-clause-symbols
returns-clause-symbols c = demo_symbols_read
