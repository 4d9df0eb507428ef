-- The order of identities is a strict total order: `less_trans`, `less_flip`, `more_flip`, `same_flip`, `same_eq`, `same_self`. Of laws of sets only the winner's
-- look at a field, the key (`num_same`).
use Rattle.std.proofs.Common.{◌≡◌, ℕ, ◌<◌, true, sym, refl, ◌∙◌, arith, le-ltb, lt-ltb, eq-eqb, ne_eqb}
use native.Mathlib.Decide.{dec_lt}
use Rattle.styles.specs.declared.Identity.{Identity}
use Rattle.styles.specs.declared.Party.{Party}
use Rattle.styles.specs.declared.Party.TheVariants.{Plant, Lab}
use Rattle.styles.specs.declared.Stand.{Stand}
use Rattle.styles.specs.declared.Stand.TheVariants.{Before, Same, After}
use Rattle.styles.specs.Order.{numbers, rank, stands, is_before, is_same}

-- two numbers
num_less : (a b : ℕ) → a < b → numbers a b ≡ Before
unfolding numbers
num_less a b h = simp (lt-ltb a b h)

pub num_same : (a b : ℕ) → a ≡ b → numbers a b ≡ Same
unfolding numbers
num_same a b h = simp (le-ltb a b (omega arith), eq-eqb a b h)

num_more : (a b : ℕ) → b < a → numbers a b ≡ After
unfolding numbers
num_more a b h = simp (le-ltb a b (omega arith), ne_eqb a b (omega arith))

-- what the tests say
pub is_before_of : (s : Stand) → is_before s ≡ true → s ≡ Before
is_before_of Before e = refl
is_before_of Same e = cc
is_before_of After e = cc

pub is_same_of : (s : Stand) → is_same s ≡ true → s ≡ Same
is_same_of Before e = cc
is_same_of Same e = refl
is_same_of After e = cc

-- a party is known by its rank
pub rank_eq : (a b : Party) → rank a ≡ rank b → a ≡ b
rank_eq Plant Plant e = refl
rank_eq Plant Lab e = absurd (omega arith)
rank_eq Lab Plant e = absurd (omega arith)
rank_eq Lab Lab e = refl

-- what `before` means
pub data Less (a b : Identity) : Type 0 where
  by_party : rank a.party < rank b.party → Less a b
  by_key : rank a.party ≡ rank b.party → a.key < b.key → Less a b
  by_lamport : rank a.party ≡ rank b.party → a.key ≡ b.key → a.lamport < b.lamport → Less a b
  by_peer : rank a.party ≡ rank b.party → a.key ≡ b.key → a.lamport ≡ b.lamport → a.peer < b.peer → Less a b

chain : {a b c : Identity} → Less a b → Less b c → Less a c
chain (by_party h) (by_party k) = by_party (omega arith)
chain (by_party h) (by_key p k) = by_party (omega arith)
chain (by_party h) (by_lamport p e k) = by_party (omega arith)
chain (by_party h) (by_peer p e f k) = by_party (omega arith)
chain (by_key q h) (by_party k) = by_party (omega arith)
chain (by_key q h) (by_key p k) = by_key (omega arith) (omega arith)
chain (by_key q h) (by_lamport p e k) = by_key (omega arith) (omega arith)
chain (by_key q h) (by_peer p e f k) = by_key (omega arith) (omega arith)
chain (by_lamport q e h) (by_party k) = by_party (omega arith)
chain (by_lamport q e h) (by_key p k) = by_key (omega arith) (omega arith)
chain (by_lamport q e h) (by_lamport p g k) = by_lamport (omega arith) (omega arith) (omega arith)
chain (by_lamport q e h) (by_peer p g f k) = by_lamport (omega arith) (omega arith) (omega arith)
chain (by_peer q e d h) (by_party k) = by_party (omega arith)
chain (by_peer q e d h) (by_key p k) = by_key (omega arith) (omega arith)
chain (by_peer q e d h) (by_lamport p g k) = by_lamport (omega arith) (omega arith) (omega arith)
chain (by_peer q e d h) (by_peer p g f k) = by_peer (omega arith) (omega arith) (omega arith) (omega arith)

pub of_less : {a b : Identity} → Less a b → stands a b ≡ Before
unfolding stands
of_less {a} {b} (by_party h) = simp (num_less (rank a.party) (rank b.party) h)
of_less {a} {b} (by_key p h) = simp (num_same (rank a.party) (rank b.party) p, num_less a.key b.key h)
of_less {a} {b} (by_lamport p e h) =
    simp (num_same (rank a.party) (rank b.party) p, num_same a.key b.key e, num_less a.lamport b.lamport h)
of_less {a} {b} (by_peer p e f h) =
    simp (
      num_same (rank a.party) (rank b.party) p,
      num_same a.key b.key e,
      num_same a.lamport b.lamport f,
      num_less a.peer b.peer h,
    )

pub of_more : {a b : Identity} → Less b a → stands a b ≡ After
unfolding stands
of_more {a} {b} (by_party h) = simp (num_more (rank a.party) (rank b.party) h)
of_more {a} {b} (by_key p h) = simp (num_same (rank a.party) (rank b.party) (sym p), num_more a.key b.key h)
of_more {a} {b} (by_lamport p e h) =
    simp (num_same (rank a.party) (rank b.party) (sym p), num_same a.key b.key (sym e), num_more a.lamport b.lamport h)
of_more {a} {b} (by_peer p e f h) =
    simp (
      num_same (rank a.party) (rank b.party) (sym p),
      num_same a.key b.key (sym e),
      num_same a.lamport b.lamport (sym f),
      num_more a.peer b.peer h,
    )

pub same_self : (a : Identity) → stands a a ≡ Same
unfolding stands
same_self a =
    simp (
      num_same (rank a.party) (rank a.party) refl,
      num_same a.key a.key refl,
      num_same a.lamport a.lamport refl,
      num_same a.peer a.peer refl,
    )

-- the three cases
data Cases (a b : Identity) : Type 0 where
  is_less : Less a b → Cases a b
  are_same : a ≡ b → Cases a b
  is_more : Less b a → Cases a b

pub identity_eq : (a b : Identity) → rank a.party ≡ rank b.party → a.key ≡ b.key → a.lamport ≡ b.lamport → a.peer ≡ b.peer → a ≡ b
identity_eq a b p e f g = let q = rank_eq a.party b.party p in λ i. record { party = q i; key = e i; lamport = f i; peer = g i }

cases : (a b : Identity) → Cases a b
cases a b =
    elim (dec_lt (rank a.party) (rank b.party)) [
      | yes h ↦ is_less (by_party h)
      | no h ↦
          elim (dec_lt (rank b.party) (rank a.party)) [
            | yes k ↦ is_more (by_party k)
            | no k ↦ in_party (omega arith)
          ]
    ]
  where
    in_party : rank a.party ≡ rank b.party → Cases a b
    in_party p =
        elim (dec_lt a.key b.key) [
          | yes h ↦ is_less (by_key p h)
          | no h ↦
              elim (dec_lt b.key a.key) [
                | yes k ↦ is_more (by_key (sym p) k)
                | no k ↦
                    elim (dec_lt a.lamport b.lamport) [
                      | yes h' ↦ is_less (by_lamport p (omega arith) h')
                      | no h' ↦
                          elim (dec_lt b.lamport a.lamport) [
                            | yes k' ↦ is_more (by_lamport (sym p) (omega arith) k')
                            | no k' ↦
                                elim (dec_lt a.peer b.peer) [
                                  | yes h'' ↦ is_less (by_peer p (omega arith) (omega arith) h'')
                                  | no h'' ↦
                                      elim (dec_lt b.peer a.peer) [
                                        | yes k'' ↦ is_more (by_peer (sym p) (omega arith) (omega arith) k'')
                                        | no k'' ↦ are_same (identity_eq a b p (omega arith) (omega arith) (omega arith))
                                      ]
                                ]
                          ]
                    ]
              ]
        ]

to_less : {a b : Identity} → stands a b ≡ Before → Cases a b → Less a b
to_less e (is_less h) = h
to_less {a} {b} e (are_same p) = absurd (let z : Same ≡ Before = sym (same_self b) ∙ (rw p at e) in let y : ◌≡◌ {A = ℕ} 0 1 = cc in omega arith)
to_less e (is_more h) = absurd (let z : After ≡ Before = sym (of_more h) ∙ e in let y : ◌≡◌ {A = ℕ} 0 1 = cc in omega arith)

to_more : {a b : Identity} → stands a b ≡ After → Cases a b → Less b a
to_more e (is_less h) = absurd (let z : Before ≡ After = sym (of_less h) ∙ e in let y : ◌≡◌ {A = ℕ} 0 1 = cc in omega arith)
to_more {a} {b} e (are_same p) = absurd (let z : Same ≡ After = sym (same_self b) ∙ (rw p at e) in let y : ◌≡◌ {A = ℕ} 0 1 = cc in omega arith)
to_more e (is_more h) = h

to_same : {a b : Identity} → stands a b ≡ Same → Cases a b → a ≡ b
to_same e (is_less h) = absurd (let z : Before ≡ Same = sym (of_less h) ∙ e in let y : ◌≡◌ {A = ℕ} 0 1 = cc in omega arith)
to_same e (are_same p) = p
to_same e (is_more h) = absurd (let z : After ≡ Same = sym (of_more h) ∙ e in let y : ◌≡◌ {A = ℕ} 0 1 = cc in omega arith)

pub less_trans : (a b c : Identity) → stands a b ≡ Before → stands b c ≡ Before → stands a c ≡ Before
less_trans a b c h k = of_less (chain (to_less h (cases a b)) (to_less k (cases b c)))

pub less_flip : (a b : Identity) → stands a b ≡ Before → stands b a ≡ After
less_flip a b h = of_more (to_less h (cases a b))

pub more_flip : (a b : Identity) → stands a b ≡ After → stands b a ≡ Before
more_flip a b h = of_less (to_more h (cases a b))

pub same_eq : (a b : Identity) → stands a b ≡ Same → a ≡ b
same_eq a b h = to_same h (cases a b)

pub same_flip : (a b : Identity) → stands a b ≡ Same → stands b a ≡ Same
same_flip a b h = rw (same_eq a b h) (same_self b)
