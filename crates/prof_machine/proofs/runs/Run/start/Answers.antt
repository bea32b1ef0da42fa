use Rattle.std.proofs.Common.{◌∙◌, length, ap, sym, refl}
use Rattle.std.proofs.lemmas.List.FromFn.{length-map-range_with_len}
use Rattle.prof_machine.specs.Start.{first_registers}
use Rattle.prof_machine.proofs.StartLemmas.{can_load, layout_end, held_at_start, stands_at_start}
use Rattle.prof_machine.proofs.runs.Run.start.Goals as goal

pub load_image-requires : goal.load_image-requires
load_image-requires c =
    let h = c.in_ok-layout.ensures.layout in
    can_load c.args.image.now c.args.setup c.args.bytes.now c.in_ok-layout.layout c.in_ok-ram.ram h c.in_ok-layout.ensures.room c.in_ok-ram.ensures.base c.in_ok-ram.ensures.size
    (layout_end c.args.image.now c.args.setup c.in_ok-layout.layout h) c.requires.limits.segments_in_file

pub returns-clause-stands : goal.returns-clause-stands
returns-clause-stands c =
    stands_at_start c.args.image.now c.args.bytes.now c.args.setup c.in_ok-layout.layout c.in_ok-ram.ram _ c.in_ok-layout.ensures.layout c.of-machine.ensures.value
    c.in_ok-first_harts.ensures refl c.in_ok-ram.ensures.base c.in_ok-ram.ensures.zeros (c.ram.view_is ∙ c.load_image.ensures.loaded) c.of-machine.ensures.first_break refl refl refl c.in_ok-first_counts.ensures refl c.in_ok-startup.ensures.stands

pub invariant_of-result-2 : goal.invariant_of-result-2
invariant_of-result-2 c =
    held_at_start _ c.args.setup c.requires.setup c.of-machine.ensures.within c.of-machine.ensures.setup (c.in_ok-startup.ensures.sizes ∙ sym c.of-machine.ensures.sizes)
    (ap length c.in_ok-first_harts.ensures ∙ length-map-range_with_len (first_registers c.args.image.now.entry c.in_ok-layout.layout.end c.args.setup.harts) 0 c.args.setup.harts)
    refl c.in_ok-startup.ensures.stands refl refl refl refl c.in_ok-first_counts.ensures refl
