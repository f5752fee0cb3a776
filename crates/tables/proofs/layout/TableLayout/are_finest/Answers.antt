use Rattle.std.proofs.Common.{◌∙◌, rules}
use Rattle.tables.proofs.Scans.{finest_test}
use Rattle.tables.proofs.layout.TableLayout.are_finest.Goals as goal

pub returns : goal.returns
returns c = c.no_coarser.ensures ∙ finest_test c.args.self.now c.args.levels c.finest.result (search rules) c.finest.ensures
