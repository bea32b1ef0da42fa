use Rattle.std.proofs.Common.{arith}
use Rattle.std.proofs.lemmas.List.{append-nil}
use Rattle.elf32_syms.specs.Segments.{segments_of}
use Rattle.elf32_syms.proofs.TableLemmas.{filter_map_more}
use Rattle.elf32_syms.proofs.segments.listed.Goals as goal

pub loop-index-preserved : goal.loop-index-preserved
loop-index-preserved c = grind (arith, filter_map_more, append-nil)

pub returns : goal.returns
unfolding segments_of
returns c = grind arith
