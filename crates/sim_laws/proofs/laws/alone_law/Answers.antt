use Rattle.image.specs.Texts.{word_at}
use Rattle.std.proofs.Common.{[]}
use Rattle.sim_laws.proofs.CodeFacts.{code_is}
use Rattle.sim_laws.proofs.Start.{no_lives, renders_itself}
use Rattle.sim_laws.proofs.laws.alone_law.Goals as goal

pub returns : goal.returns
returns _ = record {
  code = λ p. code_is p (word_at p.texts) [] no_lives;
  renders = λ p k. renders_itself p k;
}
