-- What a file holds once it was written as a whole.
use Rattle.std.proofs.Common.{◌≡◌, ◌≢◌, ℕ, Bool, true, false, cond, List, [], ◌∷◌, ◌++◌, Option, Some, None, refl, sym, ap, ◌∙◌}
use Rattle.std.specs.Prelude.{bytes_eq}
use Rattle.std.proofs.lemmas.Slice.Eq.{bytes_eq-Decides}
use Rattle.host_port.specs.Act.{Disk, File, file_content, with_file, with_more, disk_after}
use Rattle.courses.specs.Answer.{file_acts, given_file_acts}

same_name : (name : List ℕ) → bytes_eq name name ≡ true
same_name name = (bytes_eq-Decides name name).1 refl

-- two names that differ from one another, of which the first is found
not_both : (a b name : List ℕ) → bytes_eq a b ≡ true → b ≢ name → bytes_eq a name ≡ false
not_both a b name is apart = by (bytes_eq a name) refl
  where
    by : (x : Bool) → bytes_eq a name ≡ x → x ≡ false
    by true e = absurd (apart (sym ((bytes_eq-Decides a b).0 is) ∙ (bytes_eq-Decides a name).0 e))
    by false e = refl

content_first : (name : List ℕ) (f : File) (fs : List File) → bytes_eq f.0 name ≡ true → file_content name (f ∷ fs) ≡ f.1
content_first name f fs e = ap (λ (b : Bool). cond b f.1 (file_content name fs)) e

content_later : (name : List ℕ) (f : File) (fs : List File) → bytes_eq f.0 name ≡ false → file_content name (f ∷ fs) ≡ file_content name fs
content_later name f fs e = ap (λ (b : Bool). cond b f.1 (file_content name fs)) e

put_first : (name bytes : List ℕ) (f : File) (fs : List File) → bytes_eq f.0 name ≡ true → with_file name bytes (f ∷ fs) ≡ (f.0, bytes) ∷ fs
put_first name bytes f fs e = ap (λ (b : Bool). cond b ((f.0, bytes) ∷ fs) (f ∷ with_file name bytes fs)) e

put_later : (name bytes : List ℕ) (f : File) (fs : List File) → bytes_eq f.0 name ≡ false → with_file name bytes (f ∷ fs) ≡ f ∷ with_file name bytes fs
put_later name bytes f fs e = ap (λ (b : Bool). cond b ((f.0, bytes) ∷ fs) (f ∷ with_file name bytes fs)) e

more_first : (name bytes : List ℕ) (f : File) (fs : List File) → bytes_eq f.0 name ≡ true → with_more name bytes (f ∷ fs) ≡ (f.0, f.1 ++ bytes) ∷ fs
more_first name bytes f fs e = ap (λ (b : Bool). cond b ((f.0, f.1 ++ bytes) ∷ fs) (f ∷ with_more name bytes fs)) e

more_later : (name bytes : List ℕ) (f : File) (fs : List File) → bytes_eq f.0 name ≡ false → with_more name bytes (f ∷ fs) ≡ f ∷ with_more name bytes fs
more_later name bytes f fs e = ap (λ (b : Bool). cond b ((f.0, f.1 ++ bytes) ∷ fs) (f ∷ with_more name bytes fs)) e

-- the file that was made empty and then written
whole : (name text : List ℕ) (files : List File) → file_content name (with_more name text (with_file name [] files)) ≡ text
whole name text [] = search (same_name, more_first, content_first)
whole name text (f ∷ fs) = by (whole name text fs) (bytes_eq f.0 name) refl
  where
    by : file_content name (with_more name text (with_file name [] fs)) ≡ text → (b : Bool) → bytes_eq f.0 name ≡ b → file_content name (with_more name text (with_file name [] (f ∷ fs))) ≡ text
    by rest true e = search (put_first, more_first, content_first)
    by rest false e = search (put_later, more_later, content_later)

-- the other files stay
module _ (name other : List ℕ) (apart : other ≢ name) where
  stays_put : (bytes : List ℕ) (files : List File) → file_content name (with_file other bytes files) ≡ file_content name files
  stays_put bytes [] = content_later name (other, bytes) [] (not_both other other name (same_name other) apart)
  stays_put bytes (f ∷ fs) = by (stays_put bytes fs) (bytes_eq f.0 other) refl
    where
      by : file_content name (with_file other bytes fs) ≡ file_content name fs → (b : Bool) → bytes_eq f.0 other ≡ b → file_content name (with_file other bytes (f ∷ fs)) ≡ file_content name (f ∷ fs)
      by rest true e = search (not_both, put_first, content_later)
      by rest false e = ap (file_content name) (put_later other bytes f fs e) ∙ ap (λ (c : List ℕ). cond (bytes_eq f.0 name) f.1 c) rest

  stays_more : (bytes : List ℕ) (files : List File) → file_content name (with_more other bytes files) ≡ file_content name files
  stays_more bytes [] = refl
  stays_more bytes (f ∷ fs) = by (stays_more bytes fs) (bytes_eq f.0 other) refl
    where
      by : file_content name (with_more other bytes fs) ≡ file_content name fs → (b : Bool) → bytes_eq f.0 other ≡ b → file_content name (with_more other bytes (f ∷ fs)) ≡ file_content name (f ∷ fs)
      by rest true e = search (not_both, more_first, content_later)
      by rest false e = ap (file_content name) (more_later other bytes f fs e) ∙ ap (λ (c : List ℕ). cond (bytes_eq f.0 name) f.1 c) rest

pub file_written : (name text : List ℕ) (d : Disk) → file_content name (disk_after (file_acts name text) d).files ≡ text
file_written name text d = whole name text d.files

-- and a file of another name that is perhaps written then
pub file_stays : (name bytes : List ℕ) (other : Option (List ℕ)) (d : Disk) → other ≢ Some name → file_content name (disk_after (given_file_acts other bytes) d).files ≡ file_content name d.files
file_stays name bytes None d apart = refl
file_stays name bytes (Some file) d apart =
    let differs : file ≢ name = λ same. apart (ap (λ (x : List ℕ). Some x) same) in
    stays_more name file differs bytes (with_file file [] d.files) ∙ stays_put name file differs [] d.files
