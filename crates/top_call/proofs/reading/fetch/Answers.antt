use Rattle.std.proofs.Common.{◌∙◌, ap}
use Rattle.top_call.specs.Outside.{with_files}
use Rattle.top_call.proofs.reading.fetch.Goals as goal

pub returns-clause-read : goal.returns-clause-read
returns-clause-read g c = λ rest. record {
  cause = c.take_file.ensures.cause rest;
  asked = c.take_file.ensures.asked;
  rest = let now = with_files g.F.Files c.take_file.new.files rest in
      ap (λ told. record now { disk = told }) c.take_file.ensures.disk ∙ ap (λ count. record now { disk = g.F.Files.disk c.args.files.now; puts = count }) c.take_file.ensures.puts;
}
