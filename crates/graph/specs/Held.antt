-- The sheet that is held; where nothing was read, one without actors.
use Rattle.std.specs.Prelude.{vec_items}
use Rattle.rules.specs.declared.sheet.Kind.TheVariants.{Unified}
use Rattle.rules.specs.declared.sheet.Machine.{Machine}
use Rattle.rules.specs.declared.sheet.Fit.{Fit}
use Rattle.rules.specs.declared.sheet.Fit.TheVariants.{First}
use Rattle.rules.specs.Sheets.{Sheet}
use Rattle.graph.specs.declared.stage.Stage.{Stage}
use Rattle.graph.specs.declared.stage.Stage.TheVariants.{Blank, Machined, Ruled}
use Rattle.graph.specs.declared.read_sheet.ReadSheet.{ReadSheet}

-- the machine; one core and no memory where there is none yet
abbrev pub machine_held : Stage → Machine
machine_held Blank = record { kind = Unified; cores = 1; shared = 0; private = 0; grain = 1 }
machine_held (Machined m) = m
machine_held (Ruled m f) = m

-- the fit rule; first fit where there is none yet
abbrev pub fit_held : Stage → Fit
fit_held Blank = First
fit_held (Machined m) = First
fit_held (Ruled m f) = f

abbrev pub sheet_held : ReadSheet → Sheet
sheet_held r =
    record {
      machine = machine_held r.stage;
      fit = fit_held r.stage;
      layers = vec_items r.layers;
      actors = vec_items r.actors;
      links = vec_items r.links.list;
    }
