-- The kinds of text that the fields of a request have.
use Rattle.std.specs.Prelude.{ℕ, ◌^◌, ◌&&◌, ◌||◌, ◌==◌, List, length, codes, ℤ, pos, negsuc, nat_lt, nat_le, nat_eq}
use Rattle.std.specs.Prelude.{not, Bool, true, false, is_some, Option, Some, None, option_and_then, if◌then◌else◌}
use Rattle.std.specs.Str.{bytes_eq}
use Rattle.std.specs.List.{list_any}
use Rattle.mq_bytes.specs.Decimal.{decimal_value}
use Rattle.remoting_frame.specs.Json.{in_i32}

-- a text, the name of a group or a client, numbers of several ranges, a verdict, and what must not be `true`
pub data Kind : Type 0 where
  text : Kind
  name : Kind
  i32 : Kind
  i64 : Kind
  u31 : Kind
  time : Kind
  count : Kind
  verdict : Kind
  untrue : Kind

-- 1 to 120 bytes, none of them 1 or 2
abbrev pub is_name : List ℕ → Bool
is_name t = nat_lt 0 (length t) && nat_le (length t) 120 && not (list_any (nat_eq 1) t) && not (list_any (nat_eq 2) t)

-- ---- the numbers

-- a number below the bound
abbrev pub below : ℕ → ℤ → Option ℕ
below bound (pos n) = if nat_lt n bound then Some n else None
below bound (negsuc n) = None

-- a number of queues, 1 to 1,024
abbrev pub in_count : ℤ → Option ℕ
in_count (pos n) = if nat_lt 0 n && nat_lt n 1025 then Some n else None
in_count (negsuc n) = None

-- what becomes of a half message: 0 leaves it, 8 commits it, 12 rolls it back
abbrev pub in_verdict : ℤ → Option ℕ
in_verdict (pos n) = if n == 0 || n == 8 || n == 12 then Some n else None
in_verdict (negsuc n) = None

-- ---- the numbers that texts write

-- 32 signed bits
abbrev pub i32_in : List ℕ → Option ℤ
i32_in t = option_and_then in_i32 (decimal_value t)

-- 64 signed bits
abbrev pub i64_in : List ℕ → Option ℤ
i64_in t = decimal_value t

-- a queue id, which is below 2^31
abbrev pub u31_in : List ℕ → Option ℕ
u31_in t = option_and_then (below (2 ^ 31)) (decimal_value t)

-- a time, an offset or a place, which is below 2^62
abbrev pub time_in : List ℕ → Option ℕ
time_in t = option_and_then (below (2 ^ 62)) (decimal_value t)

-- how many queues a topic is to have
abbrev pub count_in : List ℕ → Option ℕ
count_in t = option_and_then in_count (decimal_value t)

-- what a producer says of its half message
abbrev pub verdict_in : List ℕ → Option ℕ
verdict_in t = option_and_then in_verdict (decimal_value t)

-- ---- which texts are of a kind

-- whether the text is of the kind
abbrev pub is_of : Kind → List ℕ → Bool
is_of text t = true
is_of name t = is_name t
is_of i32 t = is_some (i32_in t)
is_of i64 t = is_some (i64_in t)
is_of u31 t = is_some (u31_in t)
is_of time t = is_some (time_in t)
is_of count t = is_some (count_in t)
is_of verdict t = is_some (verdict_in t)
is_of untrue t = not (bytes_eq t (codes "true"))

-- each text is of this kind
abbrev pub is_text : Kind → Bool
is_text text = true
is_text name = false
is_text i32 = false
is_text i64 = false
is_text u31 = false
is_text time = false
is_text count = false
is_text verdict = false
is_text untrue = false
