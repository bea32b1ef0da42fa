use Rattle.std.proofs.Common.{[]}
use Rattle.gmon_bsd.proofs.file.read.Goals as goal

pub returns-clause-refusal : goal.returns-clause-refusal
returns-clause-refusal c = c.finish.ensures.refusal c.args.bytes.now (c.in_ok-feed.ensures.stands [] c.new-reader.ensures.stands)

pub returns-clause-accepted : goal.returns-clause-accepted
returns-clause-accepted c = c.finish.ensures.accepted c.args.bytes.now (c.in_ok-feed.ensures.stands [] c.new-reader.ensures.stands)

pub returns-clause-records : goal.returns-clause-records
returns-clause-records c = c.finish.ensures.records c.args.bytes.now (c.in_ok-feed.ensures.stands [] c.new-reader.ensures.stands)

pub returns-clause-spelled : goal.returns-clause-spelled
returns-clause-spelled c = c.finish.ensures.spelled c.args.bytes.now (c.in_ok-feed.ensures.stands [] c.new-reader.ensures.stands)
