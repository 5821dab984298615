-- The promises about a placed sheet.
use Rattle.rules.specs.Fitting.{Rule, IsFitRule}
use Rattle.rules.specs.Fabrics.{Meaning}
use Rattle.rules.specs.Sheets.{Sheet}
use Rattle.rules.specs.Layouts.{Placeable, Layout, LaidOut}
use Rattle.rules.specs.Promises.{BoundedFootprints, SoundLayoutsNeverClash, TheWholePromise}
use Rattle.rules.proofs.Living.{live_objects_exclude}
use Rattle.rules.proofs.Exact.{exclusion_is_exact}
use Rattle.rules.proofs.Placed.{laid_out_is_sound}
use Rattle.rules.proofs.Footprints.{footprints_are_bounded}
use Rattle.rules.proofs.Cliques.{footprints_hold_every_clique}
use Rattle.rules.proofs.Reach.{in_reach}

pub sound_layouts_never_clash : SoundLayoutsNeverClash
sound_layouts_never_clash s m places P sound =
    record {
      live_objects_share_no_byte = λ calls st reached x y different live live-too b l.
          sound.excluding_share_no_byte b x y l (live_objects_exclude s calls st reached x y different live live-too);
      live_objects_are_in_reach = λ calls st reached x live c touches. in_reach s m places P sound x live.known c touches;
    }

-- the footprints of the places that the rules give are bounded from both sides
pub bounded_footprints : (s : Sheet) (m : Meaning) (rule : Rule) (places : Layout) →
    Placeable s m → IsFitRule rule → LaidOut s m rule places → BoundedFootprints s m places
bounded_footprints s m rule places P lawful L =
    record {
      at_least = λ b f l F. footprints_hold_every_clique s m places P (laid_out_is_sound s m rule places P lawful L) b f l F;
      at_most = λ b f l F. footprints_are_bounded s m rule places P lawful L b f l F;
    }

pub the_whole_promise : TheWholePromise
the_whole_promise s m rule places P lawful L =
    record {
      never_a_clash = sound_layouts_never_clash s m places P (laid_out_is_sound s m rule places P lawful L);
      exact_exclusion = exclusion_is_exact s P.ordered;
      bounded_footprints = bounded_footprints s m rule places P lawful L;
    }
