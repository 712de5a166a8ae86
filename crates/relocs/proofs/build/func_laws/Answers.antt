use Rattle.relocs.proofs.Builds.{funcs_fit, funcs_rise, few_funcs}
use Rattle.relocs.proofs.build.func_laws.Goals as goal

pub returns-clause-fit : goal.returns-clause-fit
returns-clause-fit c = funcs_fit c.args.texts.now c.args.elf.now.symbols c.args.funcs.now c.requires.listed

pub returns-clause-rise : goal.returns-clause-rise
returns-clause-rise c = funcs_rise c.args.texts.now c.args.elf.now.symbols c.args.funcs.now c.requires.listed

pub returns-clause-few : goal.returns-clause-few
returns-clause-few c = few_funcs c.args.texts.now c.args.funcs.now c.requires.fit (funcs_fit c.args.texts.now c.args.elf.now.symbols c.args.funcs.now c.requires.listed) (funcs_rise c.args.texts.now c.args.elf.now.symbols c.args.funcs.now c.requires.listed)
