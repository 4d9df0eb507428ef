-- No piece of an answer is empty. So where nothing waits after an answer was put, there was none.
use mathlib.Core.Path.{◌≡◌, refl}
use mathlib.Core.Bool.{Bool, true, false, cond}
use mathlib.Core.List.{List, [], ◌∷◌, ◌++◌, map, flat_map}
use Prim.Native.Nat.{ℕ, zero, suc, ◌+◌, ◌*◌, ◌<◌, min}
use native.Mathlib.Omega.{arith}
use lib.Dec.{eqb}
use lib.ListN.{length, get_or, take, drop, length-append, length-take, length-drop}
use Rattle.styles.specs.declared.Mark.{Mark}
use Rattle.styles.specs.declared.Styles.{Styles}
use Rattle.styles.specs.declared.Value.{Value}
use Rattle.richtext.specs.declared.AnchorType.{AnchorType}
use Rattle.lists.specs.declared.anchors.Anchor.{Anchor}
use Rattle.day_log.specs.declared.Log.{Log}
use Rattle.day_log.specs.declared.Stop.{Stop}
use Rattle.night.specs.declared.Range.{Range}
use Rattle.night.specs.declared.Plan.{Plan}
use Rattle.night.specs.Plans.{no_range}
use Rattle.settings_text.specs.declared.Asked as sets
use Rattle.settings_text.specs.Text.{share_name, limit_name}
use Rattle.tanks.specs.declared.Setting.{Setting}
use Rattle.tanks.specs.Settings.{no_setting}
use Rattle.text.specs.Bytes.{bytes}
use Rattle.script.specs.Writing.{line_text, field_text, value_text, mark_text, origin_text, kind_of, value_word}
use Rattle.script.specs.Grammar.{kind_name}
use Rattle.text.specs.Number.{decimal_text}
use Rattle.answers.specs.Waiting.{Pieces, Waiting, with, with_all}
use Rattle.answers.specs.Replies.{line_says, refused_says, or_refused, none_says, styles_say, stretches_say, anchor_says, side_says, range_says, ranges_say, plan_says, pair_says, pairs_say, found_says, stop_says, cut_up, piece_count, bytes_say}

-- no piece is empty
unfoldable pub Full : Pieces → Type 0
Full [] = Unit
Full (piece ∷ pieces) = (0 < length piece) × Full pieces

-- where nothing waits after such pieces, there were none, and nothing waited before
pub record Silent (w : Waiting) (pieces : Pieces) : Type 0 where
  pub none : pieces ≡ []
  pub before : w.at ≡ 0

unfoldable some_wait : (w : Waiting) (piece : List ℕ) (pieces : Pieces) → Full (piece ∷ pieces) → 0 < (with_all w (piece ∷ pieces)).at
unfolding Full with_all with
some_wait w piece [] f = omega (arith, f.0)
some_wait w piece (next ∷ pieces) f = some_wait (with w piece) next pieces f.1

pub silent : (w : Waiting) (pieces : Pieces) → Full pieces → (with_all w pieces).at ≡ 0 → Silent w pieces
unfolding with_all
silent w [] f e = record { none = refl; before = e }
silent w (piece ∷ pieces) f e = absurd (omega (arith, some_wait w piece pieces f, e))

-- ---- Pieces one behind the other
pub full_append : (ts us : Pieces) → Full ts → Full us → Full (ts ++ us)
unfolding Full
full_append [] us f g = g
full_append (t ∷ ts) us f g = (f.0, full_append ts us f.1 g)

pub full_cond : (b : Bool) (ts us : Pieces) → Full ts → Full us → Full (cond b ts us)
full_cond true ts us f g = f
full_cond false ts us f g = g

-- a text is not empty where its end is not
end_full : (a b : List ℕ) → 0 < length b → 0 < length (a ++ b)
end_full a b h = omega (arith, h, length-append a b)

-- a line ends with its newline
pub line_full : (name word : List ℕ) → 0 < length (line_text name word)
line_full name word = let one : 0 < 1 = omega arith in end_full (name ++ word) (bytes "\n") one

pub one_full : (name : List ℕ) (n : ℕ) → Full (line_says name n)
unfolding Full
one_full name n = (line_full name (decimal_text n), tt)

pub two_full : (a b : List ℕ) (n m : ℕ) → Full (line_says a n ++ line_says b m)
two_full a b n m = full_append (line_says a n) (line_says b m) (one_full a n) (one_full b m)

pub refused_full : (n : ℕ) → Full (refused_says n)
refused_full n = one_full (bytes "refused=") n

pub or_full : (number : ℕ) (says : Pieces) → Full says → Full (or_refused number says)
or_full number says f = full_cond (eqb number 0) says (refused_says number) f (refused_full number)

pub accepted_full : (number : ℕ) → Full (or_refused number (line_says (bytes "accepted=") 1))
accepted_full number = or_full number (line_says (bytes "accepted=") 1) (one_full (bytes "accepted=") 1)

pub none_full : Full none_says
none_full = one_full (bytes "none=") 1

-- ---- Marks and values
value_full : (v : Value) → 0 < length (value_text v)
unfolding value_text
value_full v = end_full (line_text (bytes "kind=") (kind_name (kind_of v))) (line_text (bytes "value=") (value_word v)) (line_full (bytes "value=") (value_word v))

mark_full : (m : Mark) → 0 < length (mark_text m)
unfolding mark_text
mark_full m = end_full (origin_text m ++ field_text (bytes "flags=") m.flags) (value_text m.value) (value_full m.value)

pub value_says : (v : Value) → Full (value_text v ∷ [])
unfolding Full
value_says v = (value_full v, tt)

pub mark_says : (m : Mark) → Full (mark_text m ∷ [])
unfolding Full
mark_says m = (mark_full m, tt)

marks_full : (ms : List Mark) → Full (map mark_text ms)
unfolding Full
marks_full [] = tt
marks_full (m ∷ ms) = (mark_full m, marks_full ms)

pub styles_full : (s : Styles) → Full (styles_say s)
unfolding Full
styles_full s = (line_full (bytes "marks=") (decimal_text s.count), marks_full (take (min s.count 64) s.marks))

-- ---- Lists
stretches_full : (ns : List ℕ) → Full (stretches_say ns)
unfolding Full stretches_say
stretches_full [] = tt
stretches_full (a ∷ []) = tt
stretches_full (a ∷ b ∷ []) = tt
stretches_full (a ∷ b ∷ n ∷ rest) = (line_full (bytes "from=") (decimal_text a), (line_full (bytes "to=") (decimal_text b), (line_full (bytes "marks=") (decimal_text n), stretches_full rest)))

pub list_full : (tank : ℕ) (ns : List ℕ) → Full (field_text (bytes "tank=") tank ∷ stretches_say ns)
unfolding Full
list_full tank ns = (line_full (bytes "tank=") (decimal_text tank), stretches_full ns)

side_full : (a : AnchorType) → Full (side_says a)
unfolding Full
side_full AnchorType.Start = (line_full (bytes "side=") (bytes "start"), tt)
side_full AnchorType.End = (line_full (bytes "side=") (bytes "end"), tt)

anchor_full : (a : Anchor) → Full (anchor_says a)
anchor_full a =
    full_append (line_says (bytes "at=") a.at ++ side_says a.side ++ line_says (bytes "key=") a.key ++ line_says (bytes "lamport=") a.lamport) (line_says (bytes "peer=") a.peer)
    (full_append (line_says (bytes "at=") a.at ++ side_says a.side ++ line_says (bytes "key=") a.key) (line_says (bytes "lamport=") a.lamport)
    (full_append (line_says (bytes "at=") a.at ++ side_says a.side) (line_says (bytes "key=") a.key)
    (full_append (line_says (bytes "at=") a.at) (side_says a.side) (one_full (bytes "at=") a.at) (side_full a.side))
    (one_full (bytes "key=") a.key))
    (one_full (bytes "lamport=") a.lamport))
    (one_full (bytes "peer=") a.peer)

pub anchors_full : (list : List Anchor) → Full (flat_map anchor_says list)
unfolding Full flat_map
anchors_full [] = tt
anchors_full (a ∷ list) = full_append (anchor_says a) (flat_map anchor_says list) (anchor_full a) (anchors_full list)

-- ---- Plans, settings, logs
ranges_full : (n i : ℕ) (xs : List Range) → Full (ranges_say n i xs)
unfolding Full ranges_say
ranges_full zero i xs = tt
ranges_full (suc n) i xs =
    let x = get_or xs i no_range in
    full_append (range_says x) (ranges_say n (suc i) xs) (two_full (bytes "start=") (bytes "end=") x.start x.end) (ranges_full n (suc i) xs)

pub plan_full : (p : Plan) → Full (plan_says p)
plan_full p = full_append (line_says (bytes "ranges=") p.count) _ (one_full (bytes "ranges=") p.count) (ranges_full (min p.count 32) 0 p.ranges)

pairs_full : (n t : ℕ) (st : List Setting) → Full (pairs_say n t st)
unfolding Full pairs_say
pairs_full zero t st = tt
pairs_full (suc n) t st =
    let s = get_or st t no_setting in
    full_append (pair_says t s) (pairs_say n (suc t) st) (two_full (share_name t) (limit_name t) s.share s.limit) (pairs_full n (suc t) st)

pub found_full : (a : sets.Asked) → Full (found_says a)
unfolding found_says
found_full a = full_cond a.found (pairs_say 8 0 a.settings) none_says (pairs_full 8 0 a.settings) none_full

stop_full : (s : Stop) (lines : ℕ) → Full (stop_says s lines)
unfolding stop_says
stop_full Stop.Going lines = one_full (bytes "lines=") lines
stop_full (Stop.Refused line number) lines = two_full (bytes "refused=") (bytes "line=") number line

pub report_full : (l : Log) → Full (line_says (bytes "applied=") l.edits ++ stop_says l.stop l.reader.newlines)
report_full l = full_append (line_says (bytes "applied=") l.edits) _ (one_full (bytes "applied=") l.edits) (stop_full l.stop l.reader.newlines)

-- ---- Texts
cut_full : (n i : ℕ) (t : List ℕ) → 192 * (i + n) < length t + 192 → Full (cut_up n i t)
unfolding Full cut_up
cut_full zero i t h = tt
cut_full (suc n) i t h = (omega (arith, length-take 192 (drop (192 * i) t), length-drop (192 * i) t), cut_full n (suc i) t (omega arith))

pub bytes_full : (t : List ℕ) → Full (bytes_say t)
unfolding bytes_say
bytes_full t = full_append (line_says (bytes "bytes=") (length t)) _ (one_full (bytes "bytes=") (length t)) (cut_full (piece_count (length t)) 0 t (omega arith))
