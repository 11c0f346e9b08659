-- The tests of a record in place: on its fields, and on the text of its properties.
use Rattle.std.specs.Prelude.{ℕ, ◌+◌, List, [], ◌∷◌, length, take, drop, codes, Bool, false, not, ◌&&◌, Option, Some, None}
use Rattle.std.specs.Str.{is_utf8}
use Rattle.record_codec.specs.Props.{written, are_distinct, has_name, pairs_in}
use Rattle.record_codec.specs.Layout.{is_legal, are_hosts_short, are_low}
use Rattle.record_codec.specs.Parsed.{n32, n64, Lengths}

-- the topic, the host flags, and the five numbers below 2^62
unfoldable pub has_fields : List ℕ → Lengths → Bool
has_fields b l =
    is_legal (take l.topic (drop (89 + l.body) b)) && are_hosts_short (n32 b 36)
    && are_low (n64 b 20 ∷ n64 b 28 ∷ n64 b 40 ∷ n64 b 56 ∷ n64 b 76 ∷ [])

-- pairs that a record may have
abbrev pub are_allowed : Option (List (List ℕ × List ℕ)) → Bool
are_allowed None = false
are_allowed (Some ps) = are_distinct ps && not (has_name (codes "SEAL") ps) && is_utf8 (written ps)

-- a text of such pairs, in written form
unfoldable pub are_props : List ℕ → Bool
are_props text = are_allowed (pairs_in (length text) text)
