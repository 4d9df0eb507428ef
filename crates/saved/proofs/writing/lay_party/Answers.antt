-- By the party.
use native.Mathlib.Omega.{arith}
use mathlib.Core.Path.{sym, ap}
use Rattle.text.specs.Bytes.{bytes}
use Rattle.text_lines.specs.Lines.{word_text}
use Rattle.styles.specs.declared.Party.{Party}
use Rattle.saved.specs.Saved.{party_name}
use Rattle.saved.proofs.Laying.{lays_more, lays_as}
use Rattle.saved.proofs.writing.lay_party.Goals as goal

pub returns-in-Plant : goal.returns-in-Plant
returns-in-Plant c = lays_as (sym (ap (λ (who : Party). word_text (bytes "party=") (party_name who)) c.in-Plant.is)) (lays_more (omega arith) c.lay.ensures)

pub returns-in-Lab : goal.returns-in-Lab
returns-in-Lab c = lays_as (sym (ap (λ (who : Party). word_text (bytes "party=") (party_name who)) c.in-Lab.is)) (lays_more (omega arith) c.lay-in-Lab.ensures)
