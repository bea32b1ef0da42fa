use Rattle.std.proofs.Common.{◌≡◌, ◌∙◌, ap, replicate}
use Rattle.folded.specs.Nodes.{first_place}
use Rattle.folded.specs.declared.place.Place.{Place}
use Rattle.folded.proofs.TrackLemmas.{first_tracked}
use Rattle.folded.proofs.tracker.Tracker.new.Goals as goal

pub returns-clause-tracked : goal.returns-clause-tracked
returns-clause-tracked c =
    let first : c.new.result ≡ first_place = λ i. record { node = c.new.ensures.node i; depth = c.new.ensures.depth i; near = c.new.ensures.near i } in
    let places : c.in_ok-vec.field-0.items ≡ replicate c.args.harts first_place = c.in_ok-vec.ensures.items_if_clones_equal (λ y h. h) ∙ ap (λ (p : Place). replicate c.args.harts p) first in
    first_tracked c.args.symbols.now _ c.args.harts c.in_ok-first_shadows.ensures places (record { linked = c.in_ok-new.ensures.linked; functions = c.in_ok-new.ensures.functions ∙ c.symbol_count.ensures })
