-- To add a profile is to add its records.
use Rattle.std.proofs.Common.{◌≡◌, ℕ, nat_eq, List, [], ◌∷◌, map, fold, Option, Some, None, unwrap_or, refl, sym, ap, subst, ◌∙◌}
use Rattle.std.specs.List.{AllByRecursion}
use Rattle.std.specs.Option.{option_or}
use Rattle.gp_base.specs.declared.records.Unit as units
use Rattle.gmon_data.specs.declared.hist.Hist.{Hist}
use Rattle.gmon_data.specs.Hists.{put_hist, kept_unit, IsKept, IsUnitOf}
use Rattle.gmon_data.specs.Tally.{tally}
use Rattle.gmon_data.specs.Content.{Content, same_ends, with_records, IsProfile, IsWithin}
use Rattle.gmon_data.proofs.RecordLemmas.{within_records}
use Rattle.profile_sum.specs.Sum.{arc_record, block_record, hist_record, hist_records, records_of_unit, sum_of}
use Rattle.profile_sum.proofs.ClashLemmas.{with_kept}
use Rattle.profile_sum.proofs.ContentLemmas.{or_none}

abbrev put : List Hist → Hist → List Hist
put done h = put_hist h done

-- behind the first one the unit stays
more_hists : (u v : units.Unit) (hs : List Hist) (c : Content) → AllByRecursion IsKept hs → with_records (map (hist_record u) hs) (record c { «unit» = Some v }) ≡ record c { hists = fold put c.hists hs; «unit» = Some v }
more_hists u v [] c kept = refl
more_hists u v (h ∷ hs) c kept =
    ap (with_records (map (hist_record u) hs)) (with_kept u h (record c { «unit» = Some v }) kept.0) ∙ more_hists u v hs (record c { hists = put_hist h c.hists }) kept.1

or_some : (o : Option units.Unit) (u : units.Unit) → Some (unwrap_or o u) ≡ option_or o (Some u)
or_some None u = refl
or_some (Some v) u = refl

hists_added : (hs : List Hist) (o : Option units.Unit) (p : Content) → IsUnitOf hs o → AllByRecursion IsKept hs
    → with_records (records_of_unit o hs) p ≡ record p { hists = fold put p.hists hs; «unit» = option_or p.«unit» o }
hists_added [] o p is kept = rw is (λ i. record p { «unit» = sym (or_none p.«unit») i })
hists_added (h ∷ hs) o p is kept =
    let u = is.0 in
    let first = with_kept u h p kept.0 in
    let rest = more_hists u (unwrap_or p.«unit» (kept_unit u)) hs (record p { hists = put_hist h p.hists }) kept.1 in
    let un = ap (λ v. Some (unwrap_or p.«unit» v)) is.2 ∙ or_some p.«unit» u in
    rw is.1 (ap (with_records (map (hist_record u) hs)) first ∙ rest ∙ (λ i. record p { hists = fold put p.hists (h ∷ hs); «unit» = un i }))

arcs_added : (es : List ((ℕ × ℕ) × ℕ)) (c : Content) → with_records (map arc_record es) c ≡ record c { arcs = fold (λ done e. tally same_ends e.0 e.1 done) c.arcs es }
arcs_added [] c = refl
arcs_added (e ∷ es) c = arcs_added es (record c { arcs = tally same_ends e.0 e.1 c.arcs })

blocks_added : (es : List (ℕ × ℕ)) (c : Content) → with_records (map block_record es) c ≡ record c { blocks = fold (λ done e. tally nat_eq e.0 e.1 done) c.blocks es }
blocks_added [] c = refl
blocks_added (e ∷ es) c = blocks_added es (record c { blocks = tally nat_eq e.0 e.1 c.blocks })

module _ (p q : Content) (is : IsProfile q) where
  abbrev hists_in : Content
  hists_in = with_records (hist_records q) p

  abbrev arcs_in : Content
  arcs_in = with_records (map arc_record q.arcs) hists_in

  pub all_added : with_records (map block_record q.blocks) arcs_in ≡ sum_of p q
  all_added = search (hists_added, arcs_added, blocks_added)

  module _ (fits : IsWithin (sum_of p q)) where
    blocks_fit_in : IsWithin (with_records (map block_record q.blocks) arcs_in)
    blocks_fit_in = subst (λ (c : Content). IsWithin c) (sym all_added) fits

    arcs_fit_in : IsWithin arcs_in
    arcs_fit_in = within_records (map block_record q.blocks) arcs_in blocks_fit_in

    pub hists_fit : (c : Content) → c ≡ p → IsWithin (with_records (hist_records q) c)
    hists_fit c e = subst (λ (d : Content). IsWithin (with_records (hist_records q) d)) (sym e) (within_records (map arc_record q.arcs) hists_in arcs_fit_in)

    pub arcs_fit : (c : Content) → c ≡ hists_in → IsWithin (with_records (map arc_record q.arcs) c)
    arcs_fit c e = subst (λ (d : Content). IsWithin (with_records (map arc_record q.arcs) d)) (sym e) arcs_fit_in

    pub blocks_fit : (c : Content) → c ≡ arcs_in → IsWithin (with_records (map block_record q.blocks) c)
    blocks_fit c e = subst (λ (d : Content). IsWithin (with_records (map block_record q.blocks) d)) (sym e) blocks_fit_in
