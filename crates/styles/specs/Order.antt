-- The order of identities: by party, then key, then lamport, then peer. Sets are sorted by it; the winner for a key goes by its last two steps
-- (Marks: `later`).
use Rattle.std.specs.Prelude.{ℕ, Bool, true, false, cond, ◌==◌, nat_lt}
use Rattle.styles.specs.declared.Identity.{Identity}
use Rattle.styles.specs.declared.Mark.{Mark}
use Rattle.styles.specs.declared.Party.{Party}
use Rattle.styles.specs.declared.Party.TheVariants.{Plant, Lab}
use Rattle.styles.specs.declared.Stand.{Stand}
use Rattle.styles.specs.declared.Stand.TheVariants.{Before, Same, After}

-- how one number stands to another
unfoldable pub numbers : ℕ → ℕ → Stand
numbers a b = cond (nat_lt a b) Before (cond (a == b) Same After)

-- the first that is not the same decides
abbrev pub then : Stand → Stand → Stand
then Before s = Before
then Same s = s
then After s = After

-- the plant comes first
abbrev pub rank : Party → ℕ
rank Plant = 0
rank Lab = 1

-- how one party stands to another
abbrev pub parties : Party → Party → Stand
parties a b = numbers (rank a) (rank b)

-- how one identity stands to another: party, then key, then lamport, then peer
unfoldable pub stands : Identity → Identity → Stand
unfolding numbers
stands a b =
    then (parties a.party b.party)
    (then (numbers a.key b.key) (then (numbers a.lamport b.lamport) (numbers a.peer b.peer)))

-- the identity of a mark
abbrev pub id_of : Mark → Identity
id_of m = record { party = m.party; key = m.key; lamport = m.lamport; peer = m.peer }

-- it stands before
abbrev pub is_before : Stand → Bool
is_before Before = true
is_before Same = false
is_before After = false

-- it is the same
abbrev pub is_same : Stand → Bool
is_same Before = false
is_same Same = true
is_same After = false

-- one identity comes before another
abbrev pub less : Identity → Identity → Bool
less a b = is_before (stands a b)

-- one identity is another
abbrev pub same_id : Identity → Identity → Bool
same_id a b = is_same (stands a b)
