-- A line to which parts are added, one behind the other.
use Rattle.std.proofs.Common.{◌≡◌, ◌++◌, ◌∙◌, List, ap, append_assoc}

add_part : {X : Type 0} (start front part one two : List X) → one ≡ start ++ front → two ≡ one ++ part → two ≡ start ++ (front ++ part)
add_part {X} start front part one two p q = q ∙ ap (λ (xs : List X). xs ++ part) p ∙ append_assoc start front part

pub five_parts : {X : Type 0} (start a b c d e one two three four five : List X) → one ≡ start ++ a → two ≡ one ++ b → three ≡ two ++ c → four ≡ three ++ d → five ≡ four ++ e → five ≡ start ++ (a ++ b ++ c ++ d ++ e)
five_parts start a b c d e one two three four five p q r s t = search add_part
