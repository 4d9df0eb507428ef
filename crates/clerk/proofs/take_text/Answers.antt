-- By the op.
use Rattle.clerk.proofs.Performing.{as_text}
use Rattle.clerk.specs.Desk.{text_house, text_side, text_says}
use mathlib.Core.Path.{refl}
use Rattle.clerk.proofs.take_text.Goals as goal

pub returns-in-Settings : goal.returns-in-Settings
unfolding text_house text_side text_says
returns-in-Settings c =
    let p = c.settings-d.ensures in
    as_text _ _ _ _ c.in-Settings.is (record { sound = c.requires.sound.0; settled = p.settled; is = refl; keeps = p.is; answer = p.answer })

pub returns-in-Log : goal.returns-in-Log
unfolding text_house text_side text_says
returns-in-Log c = as_text _ _ _ _ c.in-Log.is c.read_log.ensures

pub returns-in-Restore : goal.returns-in-Restore
unfolding text_house text_side text_says
returns-in-Restore c = as_text _ _ _ _ c.in-Restore.is c.restore.ensures
