-- What calls on an input and an output do to bytes that are told.
use Rattle.std.proofs.Common.{◌≡◌, ℕ, ◌<◌, ◌≤◌, Bool, true, List, [], ◌∷◌, ◌++◌, length, take, drop, Option, Some, None, refl, ap, ◌∙◌, arith}
use Rattle.std.specs.Prelude.{option_map, is_some, IfSome, ⊤}
use Rattle.std.proofs.lemmas.List.{take_at, drop_at, length-take-le, length-append}
use Rattle.std.specs.Io.KnownBytes.{Appends, Keeps}
use Rattle.host_port.specs.Host.{Came}
use Rattle.system_host.specs.Told.{bytes_of, told_by, Gave}

-- what the host shows of the one that is open
abbrev pub shown : {T : Type 0} → (T → Option (List ℕ)) → Option T → Option (List ℕ)
shown tells one = option_map (λ t. bytes_of (tells t)) one

-- n bytes at the front of the buffer were the first of those that were left
abbrev pub Gives : Option (List ℕ) → Option (List ℕ) → List ℕ → ℕ → Type 0
Gives None new buf n = ⊤
Gives (Some rest) None buf n = ⊥
Gives (Some rest) (Some left) buf n = (rest ≡ take n buf ++ left) × (n ≡ 0 → 0 < length buf → left ≡ [])

-- bytes stand behind those that were written before
abbrev pub Grows : Option (List ℕ) → Option (List ℕ) → List ℕ → Type 0
Grows None new bytes = ⊤
Grows (Some held) None bytes = ⊥
Grows (Some held) (Some now) bytes = now ≡ held ++ bytes

gives_told : (old new : Option (List ℕ)) (buf : List ℕ) (n : ℕ) → is_some old ≡ true → is_some new ≡ true → Gave old new buf (Some n) → Gives (Some (bytes_of old)) (Some (bytes_of new)) buf n
gives_told None new buf n told still gave = absurd cc
gives_told (Some rest) None buf n told still gave = absurd cc
gives_told (Some rest) (Some left) buf n told still gave = gave

pub gives : {T : Type 0} (tells : T → Option (List ℕ)) (told : Bool) (old new : Option T) (buf : List ℕ) (n : ℕ) → ((t : T) → told ≡ true → is_some (tells t) ≡ true) → told ≡ true → is_some new ≡ is_some old
    → Gave (told_by tells old) (told_by tells new) buf (Some n) → Gives (shown tells old) (shown tells new) buf n
gives tells told None new buf n law is same gave = tt
gives tells told (Some a) None buf n law is same gave = absurd cc
gives tells told (Some a) (Some b) buf n law is same gave = gives_told (tells a) (tells b) buf n (law a is) (law b is) gave

keeps_told : (old new : Option (List ℕ)) → is_some old ≡ true → Keeps old new → Some (bytes_of new) ≡ Some (bytes_of old)
keeps_told None new told kept = absurd cc
keeps_told (Some rest) None told kept = absurd kept
keeps_told (Some rest) (Some left) told kept = ap (λ (bytes : List ℕ). Some bytes) kept

pub keeps : {T : Type 0} (tells : T → Option (List ℕ)) (told : Bool) (old new : Option T) → ((t : T) → told ≡ true → is_some (tells t) ≡ true) → told ≡ true → is_some new ≡ is_some old
    → Keeps (told_by tells old) (told_by tells new) → shown tells new ≡ shown tells old
keeps tells told None None law is same kept = refl
keeps tells told None (Some b) law is same kept = absurd cc
keeps tells told (Some a) None law is same kept = absurd cc
keeps tells told (Some a) (Some b) law is same kept = keeps_told (tells a) (tells b) (law a is) kept

grows_told : (old new : Option (List ℕ)) (bytes : List ℕ) → is_some old ≡ true → Appends old new bytes → Grows (Some (bytes_of old)) (Some (bytes_of new)) bytes
grows_told None new bytes told took = absurd cc
grows_told (Some held) None bytes told took = absurd took
grows_told (Some held) (Some now) bytes told took = took

pub grows : {T : Type 0} (tells : T → Option (List ℕ)) (told : Bool) (old new : Option T) (bytes : List ℕ) → ((t : T) → told ≡ true → is_some (tells t) ≡ true) → told ≡ true → is_some new ≡ is_some old
    → Appends (told_by tells old) (told_by tells new) bytes → Grows (shown tells old) (shown tells new) bytes
grows tells told None new bytes law is same took = tt
grows tells told (Some a) None bytes law is same took = absurd cc
grows tells told (Some a) (Some b) bytes law is same took = grows_told (tells a) (tells b) bytes (law a is) took

no_bytes : (front back : List ℕ) → front ++ back ≡ [] → front ≡ []
no_bytes [] back e = refl
no_bytes (b ∷ front) back e = absurd cc

pub came : (buf rest left : List ℕ) (n : ℕ) → n ≤ length buf → 0 < length buf → rest ≡ take n buf ++ left → (n ≡ 0 → 0 < length buf → left ≡ []) → Came n rest buf
came buf rest left n fits room is ended = grind (arith, length-take-le, length-append, take_at)

pub left_of : (buf rest left : List ℕ) (n : ℕ) → n ≤ length buf → rest ≡ take n buf ++ left → drop n rest ≡ left
left_of buf rest left n fits is = ap (drop n) is ∙ drop_at (take n buf) left n (length-take-le n buf fits)

pub where_told : {D : Type 0} (disk : Option D) (P : Type 0) → (is_some disk ≡ true → P) → IfSome disk (λ _. P)
where_told None P holds = tt
where_told (Some d) P holds = holds refl

pub still : {T : Type 0} (tells : T → Option (List ℕ)) (old new : Option T) → is_some new ≡ is_some old → is_some (shown tells new) ≡ is_some (shown tells old)
still tells None None same = refl
still tells None (Some b) same = absurd cc
still tells (Some a) None same = absurd cc
still tells (Some a) (Some b) same = refl
