use Rattle.text_lines.proofs.records.put_hist.Goals as goal

pub returns : goal.returns
returns g c = rw c.as_slice.ensures at c.put_hist_view.ensures
