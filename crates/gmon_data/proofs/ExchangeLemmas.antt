-- Two histograms that are added one after the other, and what holds where they are exchanged.
use Rattle.std.proofs.Common.{◌≡◌, ℕ, Bool, true, false, ◌&&◌, not, ltb, eqb, length, Option, Some, None, unwrap_or, refl, sym, ap, subst, ◌∙◌, if◌then◌else◌}
use Rattle.std.specs.List.{AllByRecursion}
use Rattle.std.specs.Option.{option_or}
use Rattle.std.specs.Str.{bytes_eq}
use Rattle.std.proofs.Math.Bool.{and_comm}
use Rattle.std.proofs.lemmas.Bool.{ltb-true, eqb-true, eq-eqb}
use Rattle.std.proofs.lemmas.Slice.Eq.{bytes_eq-Decides}
use Rattle.gp_base.specs.declared.records.Unit as units
use Rattle.gmon_data.specs.declared.hist.Hist.{Hist}
use Rattle.gmon_data.specs.declared.hist.HistRange.{HistRange}
use Rattle.gmon_data.specs.declared.refusal.Unlike.{Unlike}
use Rattle.gmon_data.specs.declared.refusal.Unlike.TheVariants.{Rate, Dimension}
use Rattle.gmon_data.specs.Hists.{put_hist, range_of, range_conflict, unit_conflict, kept_unit, has_counters, IsKept}
use Rattle.gmon_data.specs.Content.{Content, WideRec, WideHist, HasSpan, with_hist, with_record, hist_conflict, record_conflict}
use Rattle.gmon_data.proofs.HistLemmas.{one_range}
use Rattle.gmon_data.proofs.RecordLemmas.{parts_none}
use Rattle.gmon_data.proofs.PutLemmas.{put_exchange}
use Rattle.gmon_data.proofs.ConflictLemmas.{after_put, alike_of, before_put, own_clear, IsClear}

same_truth : (p q : Bool) → (p ≡ true → q ≡ true) → (q ≡ true → p ≡ true) → p ≡ q
same_truth true q on back = sym (on refl)
same_truth false true on back = back refl
same_truth false false on back = refl

eqb_flip : (m n : ℕ) → eqb m n ≡ eqb n m
eqb_flip m n = same_truth (eqb m n) (eqb n m) (λ e. eq-eqb n m (sym (eqb-true m n e))) (λ e. eq-eqb m n (sym (eqb-true n m e)))

clear_flip : (a b : HistRange) → IsClear a b → IsClear b a
clear_flip a b clear =
    (λ i. and_comm (ltb b.low a.high) (ltb a.low b.high) i && not ((eqb_flip b.low a.low i && eqb_flip b.high a.high i) && eqb_flip b.count a.count i)) ∙ clear

-- units that don't conflict are the same
pub same_unit : (old new : units.Unit) → unit_conflict (Some old) new ≡ None → old ≡ new
same_unit old new none = by (eqb old.rate new.rate) (bytes_eq old.dim new.dim) (eqb old.«abbrev» new.«abbrev») refl refl refl none
  where
    by : (r d a : Bool) → eqb old.rate new.rate ≡ r → bytes_eq old.dim new.dim ≡ d → eqb old.«abbrev» new.«abbrev» ≡ a
        → (if not r then Some (Rate old.rate new.rate) else (if not (d && a) then Some (Dimension old new) else None)) ≡ None → old ≡ new
    by true true true r d a none =
        let rate = eqb-true old.rate new.rate r in
        let dim = (bytes_eq-Decides old.dim new.dim).0 d in
        let short = eqb-true old.«abbrev» new.«abbrev» a in
        λ i. record { rate = rate i; dim = dim i; «abbrev» = short i }
    by true true false r d a none = absurd cc
    by true false s r d a none = absurd cc
    by false d s r e a none = absurd cc

pub unit_self : (u : units.Unit) → unit_conflict (Some u) u ≡ None
unit_self u = rw (eq-eqb u.rate u.rate refl, (bytes_eq-Decides u.dim u.dim).1 refl, eq-eqb u.«abbrev» u.«abbrev» refl) refl

units_exchange : (o : Option units.Unit) (x y : units.Unit) → unit_conflict o x ≡ None → unit_conflict (Some (unwrap_or o x)) y ≡ None
    → (unit_conflict o y ≡ None) × (unit_conflict (Some (unwrap_or o y)) x ≡ None) × (unwrap_or o y ≡ unwrap_or o x)
units_exchange None x y first second =
    let same = same_unit x y second in
    (refl, subst (λ (u : units.Unit). unit_conflict (Some u) x ≡ None) same (unit_self x), sym same)
units_exchange (Some u) x y first second = (second, first, refl)

-- ---- the second one has no conflict either where it comes first

pub record AreExchanged (r s : WideRec) (c : Content) : Type 0 where
  pub first : record_conflict c s ≡ None
  pub second : record_conflict (with_record s c) r ≡ None
  pub same : with_record r (with_record s c) ≡ with_record s (with_record r c)

pub kept_of : (h : Hist) (u : units.Unit) → HasSpan (WideHist h u) → has_counters h ≡ true → IsKept h
kept_of h u span some = let more = ltb-true 0 (length h.counters) some in record { range = span more; some = more }

none_both : (o p : Option Unlike) → o ≡ None → p ≡ None → option_or o p ≡ None
none_both o p e f = rw (e, f) refl

pub hists_exchange : (a b : Hist) (u v : units.Unit) (c : Content) → HasSpan (WideHist a u) → HasSpan (WideHist b v) → AllByRecursion IsKept c.hists
    → hist_conflict c a u ≡ None → hist_conflict (with_hist a u c) b v ≡ None → AreExchanged (WideHist a u) (WideHist b v) c
hists_exchange a b u v c span span' kept none none' = by (has_counters a) (has_counters b) refl refl
  where
    by : (p q : Bool) → has_counters a ≡ p → has_counters b ≡ q → AreExchanged (WideHist a u) (WideHist b v) c
    by false q p e = record { first = rw p at none'; second = rw p refl; same = rw p refl }
    by true false p q = record { first = rw q refl; second = rw q none; same = rw q refl }
    by true true p q =
        let one = parts_none (range_conflict c.hists (range_of a)) _ (rw p at none) in
        let two = parts_none (range_conflict (put_hist a c.hists) (range_of b)) _ (rw (p, q) at none') in
        let mine = kept_of a u span p in
        let other = kept_of b v span' q in
        let alike = alike_of a c.hists mine kept one.0 in
        let first = before_put a (range_of b) c.hists alike two.0 in
        let clear = own_clear a (range_of b) c.hists alike two.0 in
        let alike' = alike_of b c.hists other kept first in
        let second = after_put b (range_of a) c.hists alike' one.0 (clear_flip (range_of a) (range_of b) clear) in
        let units = units_exchange c.«unit» (kept_unit u) (kept_unit v) one.1 two.1 in
        let high = λ (low : a.low ≡ b.low). ap (λ (r : HistRange). r.high) (one_range (range_of a) (range_of b) mine.range other.range low clear) in
        let puts = sym (put_exchange a b c.hists high) in
        record {
          first = rw q (none_both _ _ first units.0);
          second = rw (p, q) (none_both _ _ second units.1);
          same = rw (p, q) (λ i. record { hists = puts i; arcs = c.arcs; blocks = c.blocks; «unit» = Some (units.2 i) });
        }
