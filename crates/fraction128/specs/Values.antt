-- The value of a fraction.
use Rattle.fraction128.specs.Fractions.{Fraction, fraction}
use Rattle.fraction128.specs.declared.fracs.Frac.{Frac}

abbrev pub value_of : Frac → Fraction
value_of f = fraction f.num f.den
