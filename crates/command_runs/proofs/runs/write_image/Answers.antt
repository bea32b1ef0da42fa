use Rattle.command_runs.proofs.runs.write_image.Goals as goal

pub returns : goal.returns
returns g c = rw c.block_bytes.ensures.value at c.write_file.ensures
