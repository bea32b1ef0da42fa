use Rattle.std.proofs.Common.{◌≤◌, [], length, length-append, sym, ◌∙◌, arith}
use Rattle.gmon_files.proofs.FileReading.{form_goes_on}
use Rattle.gmon_files.proofs.file_reader.begin.Goals as goal

pub returns-in_ok-feed-in-Bsd-2-clause-stands : goal.returns-in_ok-feed-in-Bsd-2-clause-stands
returns-in_ok-feed-in-Bsd-2-clause-stands c = grind (arith, form_goes_on)

pub returns-in_ok-feed-in-Gnu-2-clause-stands : goal.returns-in_ok-feed-in-Gnu-2-clause-stands
returns-in_ok-feed-in-Gnu-2-clause-stands c =
    let front = c.args.front.now in
    let rest = c.args.rest.now in
    let four : 4 ≤ length front = omega (arith, c.requires.front) in
    (c.in_ok-feed-in-Gnu-2.ensures.stands front (c.in_ok-feed-in-Gnu.ensures.stands [] c.new-reader-in-Gnu.ensures.stands), form_goes_on front rest four ∙ sym c.form_of.ensures ∙ c.in-Gnu.is, omega (arith, four, length-append front rest))
