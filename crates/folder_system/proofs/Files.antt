-- Files that are made and taken away.
use Rattle.std.proofs.Common.{◌≡◌, ℕ, Bool, true, false, List, [], ◌∷◌, refl, sym, ap, ◌∙◌}
use Rattle.std.proofs.lemmas.Slice.Eq.{bytes_eq-Decides}
use Rattle.std.specs.Prelude.{bytes_eq, if◌then◌else◌}
use Rattle.host_port.specs.Act.{File, file_content, with_file, has_file}
use Rattle.folder_system.specs.Events.{without}

pub same_name : (name : List ℕ) → bytes_eq name name ≡ true
same_name name = (bytes_eq-Decides name name).1 refl

pub if_same : {T : Type 0} (b : Bool) (x y : T) → b ≡ true → (if b then x else y) ≡ x
if_same true x y h = refl
if_same false x y h = absurd cc

pub content_of_new : (own bytes : List ℕ) (fs : List File) → file_content own (with_file own bytes fs) ≡ bytes
content_of_new own bytes [] = if_same (bytes_eq own own) bytes [] (same_name own)
content_of_new own bytes (f ∷ fs) = at f fs (bytes_eq f.0 own) refl (content_of_new own bytes fs)
  where
    at : (f : File) (fs : List File) (b : Bool) → bytes_eq f.0 own ≡ b → file_content own (with_file own bytes fs) ≡ bytes → file_content own (with_file own bytes (f ∷ fs)) ≡ bytes
    at f fs true is rest = rw is (rw is refl)
    at f fs false is rest = rw is (rw is rest)

pub without_new : (own bytes : List ℕ) (fs : List File) → without own (with_file own bytes fs) ≡ without own fs
without_new own bytes [] = if_same (bytes_eq own own) [] ((own, bytes) ∷ []) (same_name own)
without_new own bytes (f ∷ fs) = at f fs (bytes_eq f.0 own) refl (without_new own bytes fs)
  where
    at : (f : File) (fs : List File) (b : Bool) → bytes_eq f.0 own ≡ b → without own (with_file own bytes fs) ≡ without own fs → without own (with_file own bytes (f ∷ fs)) ≡ without own (f ∷ fs)
    at f fs true is rest = rw is (rw is refl)
    at f fs false is rest = rw is (rw is (ap (λ (l : List File). f ∷ l) rest))

without_at : (own : List ℕ) (f : File) (fs : List File) (b : Bool) → bytes_eq f.0 own ≡ b → has_file own (f ∷ fs) ≡ false → (has_file own fs ≡ false → without own fs ≡ fs) → without own (f ∷ fs) ≡ f ∷ fs
without_at own f fs true is none rest = absurd (let e : true ≡ false = sym (ap (λ (b : Bool). if b then true else has_file own fs) is) ∙ none in cc)
without_at own f fs false is none rest = rw is (ap (λ (l : List File). f ∷ l) (rest (sym (ap (λ (b : Bool). if b then true else has_file own fs) is) ∙ none)))

pub without_fresh : (own : List ℕ) (fs : List File) → has_file own fs ≡ false → without own fs ≡ fs
without_fresh own [] none = refl
without_fresh own (f ∷ fs) none = without_at own f fs (bytes_eq f.0 own) refl none (without_fresh own fs)

-- a file that was made and taken away
pub made_and_removed : (own : List ℕ) (fs : List File) → has_file own fs ≡ false → without own (with_file own [] fs) ≡ fs
made_and_removed own fs fresh = without_new own [] fs ∙ without_fresh own fs fresh
