use Rattle.std.proofs.Common.{◌≡◌, ℕ, ◌+◌, ◌<◌, List, [], ◌∷◌, ◌++◌, length, take, insert, get_or, sym, ap, ◌∙◌, arith}
use Rattle.std.proofs.lemmas.List.{length-take-le, take_more}
use Rattle.std.proofs.lemmas.List.Edits.{insert_end}
use Rattle.std.proofs.lemmas.Option.{get_or_from_slice_get}
use Rattle.gmon_data.specs.declared.hist.Hist.{Hist}
use Rattle.gmon_data.proofs.hist.clone_hists.Goals as goal

-- one item more is copied
one_more : (hs copies : List Hist) (i : ℕ) (h copy : Hist) → copies ≡ take i hs → i < length hs → get_or hs i h ≡ h → copy ≡ h → insert copies i copy ≡ take (i + 1) hs
one_more hs copies i h copy is lt at same =
    let long : length (take i hs) ≡ i = length-take-le i hs (omega (arith, lt)) in
    ap (λ (l : List Hist). insert l i copy) is ∙ ap (λ (n : ℕ). insert (take i hs) n copy) (sym long) ∙ insert_end (take i hs) copy
    ∙ ap (λ (x : Hist). take i hs ++ x ∷ []) (same ∙ sym at) ∙ sym (take_more hs i h lt)

pub loop-i-preserved : goal.loop-i-preserved
loop-i-preserved c = grind (arith, get_or_from_slice_get, one_more)
