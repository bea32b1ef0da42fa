use Rattle.test_forms.proofs.tests.pieces.in_pieces.Goals as goal

pub returns : goal.returns
returns c = c.finish.ensures.spelled c.args.bytes.now c.in_ok-fed.ensures.stands
