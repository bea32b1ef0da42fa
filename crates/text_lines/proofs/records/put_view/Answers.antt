use Rattle.text_lines.specs.Lines.{rec_text}
use Rattle.text_lines.proofs.records.put_view.Goals as goal

pub returns-in-Hist : goal.returns-in-Hist
unfolding rec_text
returns-in-Hist g c = rw c.in-Hist.is c.put_hist_view.ensures

pub returns-in-Arc : goal.returns-in-Arc
unfolding rec_text
returns-in-Arc g c = rw c.in-Arc.is c.put_arc_line.ensures

pub returns-in-Blocks : goal.returns-in-Blocks
unfolding rec_text
returns-in-Blocks g c = rw c.in-Blocks.is c.put_block_list.ensures
