-- The keeper's commands, as docs/KEEPER.md has them: words, files and options.
use Rattle.std.specs.Prelude.{Bool, true, false, cond, ◌&&◌, not, List, ℕ, ltb, Option, Some, None}
use Rattle.text.specs.Bytes.{bytes, starts_of, same_of}
use Rattle.commands.specs.declared.Command.{Command}
use Rattle.commands.specs.declared.Options.{Options}
use Rattle.commands.specs.declared.Problem.{Problem}
use Rattle.commands.specs.declared.Rules.{Rules}

-- ---- Words
-- the commands that change no STATE
unfoldable pub reading_of : List ℕ → Command
reading_of w =
    cond
    (same_of w (bytes "show"))
    Command.Show
    (cond
    (same_of w (bytes "picture"))
    Command.Picture
    (cond
    (same_of w (bytes "check"))
    Command.Check
    (cond (same_of w (bytes "export")) Command.Export (cond (same_of w (bytes "--help")) Command.Help Command.Unknown))))

-- the command that a word names
unfoldable pub command_of : List ℕ → Command
unfolding reading_of
command_of w =
    cond
    (same_of w (bytes "new"))
    Command.New
    (cond
    (same_of w (bytes "feed"))
    Command.Feed
    (cond
    (same_of w (bytes "call"))
    Command.Call
    (cond
    (same_of w (bytes "merge"))
    Command.Merge
    (cond (same_of w (bytes "import")) Command.Import (reading_of w)))))

-- ---- Rules
-- how many files a command takes at least and at most, and whether --try and --from-start are its options
abbrev pub rule : ℕ → ℕ → Bool → Bool → Rules
rule least most tries starts = record { known = true; least = least; most = most; tries = tries; starts = starts }

-- STATE, and for some one file more: of logs to merge there may be any number that can be written down
abbrev pub rules_of : Command → Rules
rules_of Command.New = rule 2 2 false false
rules_of Command.Feed = rule 1 2 false true
rules_of Command.Call = rule 1 1 false false
rules_of Command.Merge = rule 2 4096 true false
rules_of Command.Show = rule 1 1 false false
rules_of Command.Picture = rule 1 1 false false
rules_of Command.Check = rule 1 1 false false
rules_of Command.Export = rule 1 1 false false
rules_of Command.Import = rule 2 2 false false
rules_of Command.Help = rule 0 4096 true true
rules_of Command.Unknown = record { known = false; least = 0; most = 4096; tries = true; starts = true }

-- ---- Options
-- a word that begins with two dashes is an option
abbrev pub is_option : List ℕ → Bool
is_option w = starts_of w (bytes "--")

-- nothing asked for: what is written is synced
abbrev pub no_options : Options
no_options = record { afresh = false; sync = true; trying = false; unknown = false }

-- the options with one more
unfoldable pub with_option : Options → List ℕ → Options
with_option o w =
    cond
    (same_of w (bytes "--from-start"))
    (record { afresh = true; sync = o.sync; trying = o.trying; unknown = o.unknown })
    (cond
    (same_of w (bytes "--no-sync"))
    (record { afresh = o.afresh; sync = false; trying = o.trying; unknown = o.unknown })
    (cond
    (same_of w (bytes "--try"))
    (record { afresh = o.afresh; sync = o.sync; trying = true; unknown = o.unknown })
    (record { afresh = o.afresh; sync = o.sync; trying = o.trying; unknown = true })))

-- ---- What is wrong
-- of a command by its rules, with so many files, the first that is wrong, or nothing: no such command, no such option, an option of another command, too few
-- files or too many
unfoldable pub problem_of : Rules → Options → ℕ → Option Problem
problem_of c o files =
    cond
    (not c.known)
    (Some Problem.NoCommand)
    (cond
    o.unknown
    (Some Problem.NoOption)
    (cond
    (o.trying && not c.tries)
    (Some Problem.TryElsewhere)
    (cond
    (o.afresh && not c.starts)
    (Some Problem.FromStartElsewhere)
    (cond (ltb files c.least) (Some Problem.TooFew) (cond (ltb c.most files) (Some Problem.TooMany) None)))))
