use Rattle.rules.proofs.promises.sound_layouts_never_clash.Goals as goal
use Rattle.rules.proofs.Promising.{sound_layouts_never_clash}

pub returns : goal.returns
returns c = sound_layouts_never_clash
