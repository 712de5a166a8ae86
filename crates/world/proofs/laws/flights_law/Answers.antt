use Rattle.world.proofs.Flights.{adopts_nothing, adopts_joined, adopted_hart, adopted_rest, adopted_world, adopted_others, adopted_goes, one_more, runs_real}
use Rattle.world.proofs.Private.{effect_alone, private_same, real_flies, layout_flies}
use Rattle.world.proofs.laws.flights_law.Goals as goal

pub returns-clause-nothing : goal.returns-clause-nothing
returns-clause-nothing c = adopts_nothing

pub returns-clause-joined : goal.returns-clause-joined
returns-clause-joined c = adopts_joined

pub returns-clause-hart : goal.returns-clause-hart
returns-clause-hart c = adopted_hart

pub returns-clause-rest : goal.returns-clause-rest
returns-clause-rest c = adopted_rest

pub returns-clause-sound : goal.returns-clause-sound
returns-clause-sound c = adopted_world

pub returns-clause-others : goal.returns-clause-others
returns-clause-others c = adopted_others

pub returns-clause-goes : goal.returns-clause-goes
returns-clause-goes c = adopted_goes

pub returns-clause-effect : goal.returns-clause-effect
returns-clause-effect c = effect_alone

pub returns-clause-alone : goal.returns-clause-alone
returns-clause-alone c = private_same

pub returns-clause-real : goal.returns-clause-real
returns-clause-real c = real_flies

pub returns-clause-layout : goal.returns-clause-layout
returns-clause-layout c = layout_flies

pub returns-clause-one_more : goal.returns-clause-one_more
returns-clause-one_more c = one_more

pub returns-clause-runs : goal.returns-clause-runs
returns-clause-runs c = runs_real
