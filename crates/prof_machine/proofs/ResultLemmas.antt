-- Facts of a result, as far as it is Ok or Err.
use Rattle.std.specs.Prelude.{Err, Ok, OnErr, OnOk, Result}

pub on_ok : (T E : Type 0) (r : Result T E) (P Q : Type 0) → (P → Q) → OnOk r P → OnOk r Q
on_ok T E (Ok x) P Q f p = f p
on_ok T E (Err e) P Q f p = tt

pub on_err_any : (T E : Type 0) (r : Result T E) (P : Type 0) → P → OnErr r P
on_err_any T E (Ok x) P p = tt
on_err_any T E (Err e) P p = p
