-- What is wrong with the text of a pattern is its syntax: reading it finds no conflict.
use Rattle.std.proofs.Common.{◌≡◌, ℕ, Bool, true, false, cond, List, [], ◌∷◌, Option, Some, None, Result, Ok, Err, subst}
use Rattle.std.specs.Prelude.{⊤, ◌==◌, ◌&&◌, ◌||◌, length, ltb}
use Rattle.matchit.specs.Rows.{param_token, catch_all_token}
use Rattle.matchit.specs.Seek.{segment}
use Rattle.matchit.specs.Route.{Scan, add_name_byte, after_close, after_feed, after_shape, close_brace, close_name, closed, closed_scan, feed, feed_closed}
use Rattle.matchit.specs.Route.{feed_name_closed, feed_name_opened, feed_named, feed_opened, feed_outside, finish, has_wild, name_closed, name_opened, named, on_shape}
use Rattle.matchit.specs.Route.{open_brace, open_name, opened, outside, parse_route, push_byte, scan, scan_start, shape_error, slash_byte, star}
use Rattle.matchit.specs.declared.error.InsertError.{InsertError}
use Rattle.matchit.specs.declared.error.InsertError.TheVariants.{Conflict, InvalidParam, InvalidParamSegment, InvalidCatchAll, OutOfMemory}

abbrev pub IsSyntax : InsertError → Type 0
IsSyntax InvalidParam = ⊤
IsSyntax InvalidParamSegment = ⊤
IsSyntax InvalidCatchAll = ⊤
IsSyntax (Conflict with) = ⊥
IsSyntax OutOfMemory = ⊥

-- a text was read, or its syntax is wrong
data IsRead : Result Scan InsertError → Type 0 where
  good : {s : Scan} → IsRead (Ok s)
  wrong : {e : InsertError} → IsSyntax e → IsRead (Err e)

bad : IsRead (Err InvalidParam)
bad = wrong tt

either : {x y : Result Scan InsertError} (test : Bool) → IsRead x → IsRead y → IsRead (cond test x y)
either true one other = one
either false one other = other

-- ---- one byte

close_read : (s : Scan) → IsRead (close_name s)
close_read s = either (s.catch_all && length s.text == s.name_start) bad (good {s = closed_scan s})

after_close_read : {r : Result Scan InsertError} (b : ℕ) → IsRead r → IsRead (after_close r b)
after_close_read b good = good
after_close_read b (wrong e) = wrong e

named_read : (s : Scan) (b : ℕ) → IsRead (feed_named s b)
named_read s b =
    either (b == close_brace) (good {s = record s { mode = name_closed }}) (either (b == open_brace) (good {s = record s { mode = name_opened }})
    (either (b == star || b == slash_byte) bad (good {s = add_name_byte s b})))

opened_read : (s : Scan) (b : ℕ) → IsRead (feed_opened s b)
opened_read s b =
    either (b == open_brace) (good {s = push_byte s open_brace}) (either (b == close_brace) bad
    (either (b == star) (good {s = open_name s true}) (good {s = add_name_byte (open_name s false) b})))

name_closed_read : (s : Scan) (b : ℕ) → IsRead (feed_name_closed s b)
name_closed_read s b = either (b == close_brace) (good {s = add_name_byte s close_brace}) (after_close_read b (close_read s))

name_opened_read : (s : Scan) (b : ℕ) → IsRead (feed_name_opened s b)
name_opened_read s b = either (b == open_brace) (good {s = add_name_byte s open_brace}) (named_read (add_name_byte s open_brace) b)

closed_read : (s : Scan) (b : ℕ) → IsRead (feed_closed s b)
closed_read s b = either (b == close_brace) (good {s = push_byte s close_brace}) bad

feed_read : (s : Scan) (b : ℕ) → IsRead (feed s b)
feed_read s b =
    either (s.mode == outside) (good {s = feed_outside s b}) (either (s.mode == opened) (opened_read s b) (either (s.mode == closed) (closed_read s b)
    (either (s.mode == named) (named_read s b) (either (s.mode == name_opened) (name_opened_read s b) (name_closed_read s b)))))

finish_read : (s : Scan) → IsRead (finish s)
finish_read s = either (s.mode == outside) (good {s = s}) (either (s.mode == name_closed) (close_read s) bad)

-- ---- all bytes

after_feed_read : {r : Result Scan InsertError} (go : Scan → Result Scan InsertError) → IsRead r → ((s : Scan) → IsRead (go s)) → IsRead (after_feed r go)
after_feed_read go (good {s}) reads = reads s
after_feed_read go (wrong e) reads = wrong e

scan_read : (s : Scan) (bytes : List ℕ) → IsRead (scan s bytes)
unfolding scan
scan_read s [] = finish_read s
scan_read s (b ∷ bytes) = after_feed_read (λ next. scan next bytes) (feed_read s b) (λ next. scan_read next bytes)

-- ---- the order of the parts

data IsShape : Option InsertError → Type 0 where
  fine : IsShape None
  faulty : {e : InsertError} → IsSyntax e → IsShape (Some e)

either_shape : {x y : Option InsertError} (test : Bool) → IsShape x → IsShape y → IsShape (cond test x y)
either_shape true one other = one
either_shape false one other = other

shape_is : (pattern : List ℕ) → IsShape (shape_error pattern)
shape_is [] = fine
shape_is (x ∷ rest) =
    either_shape (ltb catch_all_token x) (faulty {e = InvalidParam} tt) (either_shape (x == param_token)
    (either_shape (has_wild (segment rest)) (faulty {e = InvalidParamSegment} tt) (shape_is rest))
    (either_shape (x == catch_all_token) (either_shape (length rest == 0) fine (faulty {e = InvalidCatchAll} tt)) (shape_is rest)))

on_shape_read : {error : Option InsertError} (s : Scan) → IsShape error → IsRead (on_shape error s)
on_shape_read s fine = good
on_shape_read s (faulty e) = wrong e

after_shape_read : {r : Result Scan InsertError} → IsRead r → IsRead (after_shape r)
after_shape_read (good {s}) = on_shape_read s (shape_is s.pattern)
after_shape_read (wrong e) = wrong e

syntax_of : {e : InsertError} → IsRead (Err e) → IsSyntax e
syntax_of (wrong is) = is

pub reads_syntax : (pattern : List ℕ) (e : InsertError) → parse_route pattern ≡ Err e → IsSyntax e
reads_syntax pattern e is = syntax_of (subst IsRead is (after_shape_read (scan_read scan_start pattern)))
