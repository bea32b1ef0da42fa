use Rattle.graph_report.proofs.report.write.Goals as goal

pub invariant_of-inputs-clause-functions : goal.invariant_of-inputs-clause-functions
invariant_of-inputs-clause-functions g c = c.requires.functions

pub invariant_of-inputs-clause-each : goal.invariant_of-inputs-clause-each
invariant_of-inputs-clause-each g c = c.requires.each

pub invariant_of-inputs-clause-flow : goal.invariant_of-inputs-clause-flow
invariant_of-inputs-clause-flow g c = c.requires.flow

pub invariant_of-inputs-clause-few : goal.invariant_of-inputs-clause-few
invariant_of-inputs-clause-few g c = c.requires.few

pub invariant_of-inputs-clause-rate : goal.invariant_of-inputs-clause-rate
invariant_of-inputs-clause-rate g c = c.requires.rate
