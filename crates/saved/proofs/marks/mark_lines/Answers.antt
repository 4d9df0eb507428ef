-- The party, the identity behind the mark of that party, and the rest.
use Rattle.std.specs.Prelude.{Option}
use mathlib.Core.Path.{subst}
use Prim.Native.Nat.{ℕ}
use native.Mathlib.Omega.{arith}
use Rattle.std.proofs.lemmas.Result.{err_from_is_err_and}
use Rattle.styles.specs.declared.Mark.{Mark}
use Rattle.saved.specs.Reads.{ReadsParty, ReadsIdentity}
use Rattle.saved.proofs.MarksRead as marks
use Rattle.saved.proofs.marks.mark_lines.Goals as goal

pub returns-in_default : goal.returns-in_default
returns-in_default c =
    let a = c.args in
    let party_is = subst (λ (x : ℕ). ReadsParty a.version x a.bytes.now a.from a.n c.party_line.result) c.party_least.ensures c.party_line.ensures in
    marks.party_wrong a.version a.before a.bytes.now a.from a.n c.party_line.result party_is c.in_default.is

pub identity_lines-requires : goal.identity_lines-requires
identity_lines-requires c =
    let a = c.args in
    let party_is = subst (λ (x : ℕ). ReadsParty a.version x a.bytes.now a.from a.n c.party_line.result) c.party_least.ensures c.party_line.ensures in
    let party_bounds = marks.party_bounds a.version a.before a.bytes.now a.from a.n c.party_line.result party_is c.in-Some.who c.in-Some.m c.in-Some.a c.in-Some.is in (
      omega (
        arith,
        party_bounds.0,
        c.requires.0,
      ),
      party_bounds.1,
    )

pub overflow_add-m : goal.overflow_add-m
overflow_add-m c =
    let a = c.args in
    let party_is = subst (λ (x : ℕ). ReadsParty a.version x a.bytes.now a.from a.n c.party_line.result) c.party_least.ensures c.party_line.ensures in
    let party_bounds = marks.party_bounds a.version a.before a.bytes.now a.from a.n c.party_line.result party_is c.in-Some.who c.in-Some.m c.in-Some.a c.in-Some.is in
    record {
      fits = omega (
        arith,
        party_bounds.0,
        c.requires.0,
      );
    }

pub content_lines-requires : goal.content_lines-requires
content_lines-requires c =
    let a = c.args in
    let party_is = subst (λ (x : ℕ). ReadsParty a.version x a.bytes.now a.from a.n c.party_line.result) c.party_least.ensures c.party_line.ensures in
    let party_bounds = marks.party_bounds a.version a.before a.bytes.now a.from a.n c.party_line.result party_is c.in-Some.who c.in-Some.m c.in-Some.a c.in-Some.is in
    let party_on = marks.party_on a.version a.before a.bytes.now a.from a.n c.party_line.result party_is c.in-Some.who c.in-Some.m c.in-Some.a c.in-Some.is in
    let identity_is = subst (λ (o : Option Mark). ReadsIdentity o c.in-Some.who a.bytes.now c.in-Some.a c.in-Some.m c.identity_lines.result) c.own_before.ensures c.identity_lines.ensures in (
      omega (
        arith,
        party_bounds.0,
        c.requires.0,
      ),
      marks.identity_inside a.version a.before a.bytes.now a.from a.n c.in-Some.who c.in-Some.m c.in-Some.a party_on c.identity_lines.result identity_is c.in_ok-i.i c.in_ok-i.b c.in_ok-i.was,
    )

pub returns-in_err-i : goal.returns-in_err-i
returns-in_err-i c =
    let a = c.args in
    let party_is = subst (λ (x : ℕ). ReadsParty a.version x a.bytes.now a.from a.n c.party_line.result) c.party_least.ensures c.party_line.ensures in
    let party_on = marks.party_on a.version a.before a.bytes.now a.from a.n c.party_line.result party_is c.in-Some.who c.in-Some.m c.in-Some.a c.in-Some.is in
    let identity_is = subst (λ (o : Option Mark). ReadsIdentity o c.in-Some.who a.bytes.now c.in-Some.a c.in-Some.m c.identity_lines.result) c.own_before.ensures c.identity_lines.ensures in
    let p = err_from_is_err_and c.from_residual.result c.from_residual.ensures.1 in
    rw (p.1, p.2) (marks.identity_wrong a.version a.before a.bytes.now a.from a.n c.in-Some.who c.in-Some.m c.in-Some.a party_on c.identity_lines.result identity_is c.in_err-i.field-0.0 c.in_err-i.was)

pub returns : goal.returns
returns c =
    let a = c.args in
    let party_is = subst (λ (x : ℕ). ReadsParty a.version x a.bytes.now a.from a.n c.party_line.result) c.party_least.ensures c.party_line.ensures in
    let party_on = marks.party_on a.version a.before a.bytes.now a.from a.n c.party_line.result party_is c.in-Some.who c.in-Some.m c.in-Some.a c.in-Some.is in
    let identity_is = subst (λ (o : Option Mark). ReadsIdentity o c.in-Some.who a.bytes.now c.in-Some.a c.in-Some.m c.identity_lines.result) c.own_before.ensures c.identity_lines.ensures in
    let party_bounds = marks.party_bounds a.version a.before a.bytes.now a.from a.n c.party_line.result party_is c.in-Some.who c.in-Some.m c.in-Some.a c.in-Some.is in
    marks.mark_read a.version a.before a.bytes.now a.from a.n c.in-Some.who c.in-Some.m c.in-Some.a party_on c.identity_lines.result identity_is party_bounds.0 c.in_ok-i.i c.in_ok-i.b c.in_ok-i.was c.content_lines.result c.content_lines.ensures
