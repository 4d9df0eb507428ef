-- `Tank::delete` meets its contract: each test by its number; an untouched tank stays; else the positions go, and with them marks that nothing carries.
use mathlib.Core.Path.{◌≡◌, sym, ◌∙◌}
use mathlib.Core.Bool.{false}
use Rattle.tank.specs.Rules.{is_lab}
use Rattle.tank.proofs.DeleteLaws.{refused_16, refused_3, refused_4, untouched, can_cut, still_touched, delete_done}
use Rattle.tank.proofs.Tank.delete.Goals as goal

pub returns-then-is_lab : goal.returns-then-is_lab
returns-then-is_lab c = refused_16 c.requires c.args.who c.args.start c.args.end (sym c.is_lab.ensures ∙ c.if-is_lab.true)

pub returns-then-end-start : goal.returns-then-end-start
returns-then-end-start c = refused_3 c.requires c.args.who ((let h : is_lab c.args.who ≡ false = sym c.is_lab.ensures ∙ c.if-is_lab.false in h)) c.args.start c.args.end c.if-end-start.true

pub returns-then-self-end : goal.returns-then-self-end
returns-then-self-end c = refused_4 c.requires c.args.who ((let h : is_lab c.args.who ≡ false = sym c.is_lab.ensures ∙ c.if-is_lab.false in h)) c.args.start c.args.end c.if-end-start.false c.if-self-end.true

pub returns-then-not-self : goal.returns-then-not-self
returns-then-not-self c = untouched c.requires c.args.who ((let h : is_lab c.args.who ≡ false = sym c.is_lab.ensures ∙ c.if-is_lab.false in h)) c.args.start c.args.end c.if-end-start.false c.if-self-end.false (c.if-not-self.true)

pub cut-requires : goal.cut-requires
cut-requires c = can_cut c.requires c.args.who ((let h : is_lab c.args.who ≡ false = sym c.is_lab.ensures ∙ c.if-is_lab.false in h)) c.args.start c.args.end c.if-end-start.false c.if-self-end.false (c.if-not-self.false)

pub trim-requires : goal.trim-requires
trim-requires c = (
  c.cut.ensures.0,
  still_touched c.requires c.args.who ((let h : is_lab c.args.who ≡ false = sym c.is_lab.ensures ∙ c.if-is_lab.false in h)) c.args.start c.args.end c.if-end-start.false c.if-self-end.false (c.if-not-self.false) c.cut.ensures,
)

pub returns : goal.returns
returns c = delete_done c.requires c.args.who ((let h : is_lab c.args.who ≡ false = sym c.is_lab.ensures ∙ c.if-is_lab.false in h)) c.args.start c.args.end c.if-end-start.false c.if-self-end.false (c.if-not-self.false) c.cut.ensures c.trim.ensures
