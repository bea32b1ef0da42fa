-- What a step's fractions stand for.
-- Only private functions and invariants speak of it.
use Rattle.fraction128.specs.Values.{value_of}
use Rattle.exact_flow.specs.Steps.{StepNumbers}
use Rattle.exact_flow.specs.declared.step.Given.{Given}

abbrev pub numbers_of : Given → StepNumbers
numbers_of n = record { self = n.self_time; child = value_of n.child_time; calls = value_of n.calls; before = value_of n.before }
