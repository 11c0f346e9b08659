-- What the members of a plain header say, one put among them after the other.
use Rattle.std.proofs.Common.{◌≡◌, lit<, ◌^◌, FitsSigned, arith, negsuc, Bool, cond, ℕ, ◌∷◌, [], List, length, codes, true, false, true≢false, Option, Some, None, IfSome, option_and_then, ℤ, pos, Less, Equal, Greater, Ordering, refl, sym, ap, subst, ◌∙◌}
use Rattle.std.specs.Str.{IsUtf8, bytes_eq}
use Rattle.std.proofs.lemmas.Slice.Eq.{bytes_eq-Decides}
use Rattle.std.specs.Int.{w32, cast_signed, cast_unsigned}
use Rattle.std.proofs.lemmas.Int.{to_z-of_z}
use Rattle.std.proofs.lemmas.Bool.{ltb-true}
use Rattle.std.proofs.lemmas.Option.{same_Some}
use Rattle.std.specs.Ordering.{nat_cmp, match_ordering}
use Rattle.std.specs.Cmp.Lexicographic.{slice_cmp}
use Rattle.json.specs.Token.{Token, begin_object}
use Rattle.json.specs.Lex.{tokens}
use Rattle.serde_json.specs.Data.{Data, number, string, object, Members, no_members, member, put}
use Rattle.serde_json.specs.Find.{get_member, as_number, as_i64, of_integer}
use Rattle.serde_json.proofs.Views.{get_member-put, get_member-put_other}
use Rattle.remoting_frame.specs.Binary.{put_pair}
use Rattle.remoting_frame.specs.Head.{Head, IsInOrder}
use Rattle.remoting_frame.specs.Json.{is_i32, in_i32, whole, whole_or_zero, text_or_empty, pairs_or_none, header_of, json_header}
use Rattle.remoting_frame.specs.Written.{texts}
use Rattle.remoting_frame.specs.Plain.{Says, BeginsWith, members_behind, pairs_found}
use Rattle.remoting_frame.specs.declared.plain_reader.Found.{Found}
use Rattle.remoting_frame.proofs.HeaderReading.{none_in_order}
use Rattle.remoting_frame.proofs.HeaderTexts.{pairs_again}
use Rattle.remoting_frame.proofs.PlainReading.{header_is, object_begins}

abbrev Pair : Type 0
Pair = List ℕ × List ℕ

-- ---- pairs

put_at : (o : Ordering) (p q : Pair) (ps : List Pair) → put p.0 (string p.1) (texts ps) ≡ texts (put_pair ps p)
    → match_ordering o (member p.0 (string p.1) (texts (q ∷ ps))) (member q.0 (string p.1) (texts ps)) (member q.0 (string q.1) (put p.0 (string p.1) (texts ps)))
    ≡ texts (match_ordering o (p ∷ q ∷ ps) ((q.0, p.1) ∷ ps) (q ∷ put_pair ps p))
put_at Less p q ps later = refl
put_at Equal p q ps later = refl
put_at Greater p q ps later = ap (member q.0 (string q.1)) later

-- a text put among texts
pub texts-put : (ps : List Pair) (p : Pair) → put p.0 (string p.1) (texts ps) ≡ texts (put_pair ps p)
texts-put [] p = refl
texts-put (q ∷ ps) p = put_at (slice_cmp nat_cmp p.0 q.0) p q ps (texts-put ps p)

-- ---- one member more

apart : (q k : List ℕ) → bytes_eq q k ≡ false → q ≡ k → ⊥
apart q k e same = true≢false (sym ((bytes_eq-Decides q k).1 same) ∙ e)

-- the members of other names stay
kept : (q k : List ℕ) (d : Data) (ms : Members) → bytes_eq q k ≡ false → get_member q (put k d ms) ≡ get_member q ms
kept q k d ms e = get_member-put_other q k d ms (apart q k e)

pub says_code : (f : Found) (z : ℤ) (d : Data) (ms : Members) → whole d ≡ Some z → Says f ms → Says (record f { code = Some z }) (put (codes "code") d ms)
says_code f z d ms is h = record {
  code = ap (option_and_then whole) (get_member-put (codes "code") d ms) ∙ is;
  opaque = rw (kept (codes "opaque") (codes "code") d ms refl) h.opaque;
  flag = rw (kept (codes "flag") (codes "code") d ms refl) h.flag;
  version = rw (kept (codes "version") (codes "code") d ms refl) h.version;
  remark = rw (kept (codes "remark") (codes "code") d ms refl) h.remark;
  ext = rw (kept (codes "extFields") (codes "code") d ms refl) h.ext;
  ordered = h.ordered;
}

pub says_opaque : (f : Found) (z : ℤ) (d : Data) (ms : Members) → whole d ≡ Some z → Says f ms → Says (record f { opaque = Some z }) (put (codes "opaque") d ms)
says_opaque f z d ms is h = record {
  code = rw (kept (codes "code") (codes "opaque") d ms refl) h.code;
  opaque = ap (option_and_then whole) (get_member-put (codes "opaque") d ms) ∙ is;
  flag = rw (kept (codes "flag") (codes "opaque") d ms refl) h.flag;
  version = rw (kept (codes "version") (codes "opaque") d ms refl) h.version;
  remark = rw (kept (codes "remark") (codes "opaque") d ms refl) h.remark;
  ext = rw (kept (codes "extFields") (codes "opaque") d ms refl) h.ext;
  ordered = h.ordered;
}

pub says_flag : (f : Found) (z : ℤ) (d : Data) (ms : Members) → whole d ≡ Some z → Says f ms → Says (record f { flag = z }) (put (codes "flag") d ms)
says_flag f z d ms is h = record {
  code = rw (kept (codes "code") (codes "flag") d ms refl) h.code;
  opaque = rw (kept (codes "opaque") (codes "flag") d ms refl) h.opaque;
  flag = ap whole_or_zero (get_member-put (codes "flag") d ms) ∙ is;
  version = rw (kept (codes "version") (codes "flag") d ms refl) h.version;
  remark = rw (kept (codes "remark") (codes "flag") d ms refl) h.remark;
  ext = rw (kept (codes "extFields") (codes "flag") d ms refl) h.ext;
  ordered = h.ordered;
}

pub says_version : (f : Found) (z : ℤ) (d : Data) (ms : Members) → whole d ≡ Some z → Says f ms → Says (record f { version = z }) (put (codes "version") d ms)
says_version f z d ms is h = record {
  code = rw (kept (codes "code") (codes "version") d ms refl) h.code;
  opaque = rw (kept (codes "opaque") (codes "version") d ms refl) h.opaque;
  flag = rw (kept (codes "flag") (codes "version") d ms refl) h.flag;
  version = ap whole_or_zero (get_member-put (codes "version") d ms) ∙ is;
  remark = rw (kept (codes "remark") (codes "version") d ms refl) h.remark;
  ext = rw (kept (codes "extFields") (codes "version") d ms refl) h.ext;
  ordered = h.ordered;
}

pub says_remark : (f : Found) (s : List ℕ) (ms : Members) → Says f ms → Says (record f { remark = s }) (put (codes "remark") (string s) ms)
says_remark f s ms h = record {
  code = rw (kept (codes "code") (codes "remark") (string s) ms refl) h.code;
  opaque = rw (kept (codes "opaque") (codes "remark") (string s) ms refl) h.opaque;
  flag = rw (kept (codes "flag") (codes "remark") (string s) ms refl) h.flag;
  version = rw (kept (codes "version") (codes "remark") (string s) ms refl) h.version;
  remark = ap text_or_empty (get_member-put (codes "remark") (string s) ms);
  ext = rw (kept (codes "extFields") (codes "remark") (string s) ms refl) h.ext;
  ordered = h.ordered;
}

pub says_ext : (f : Found) (ps : List Pair) (ms : Members) → IsInOrder ps → Says f ms → Says (record f { ext = Some ps }) (put (codes "extFields") (object (texts ps)) ms)
says_ext f ps ms ordered h = record {
  code = rw (kept (codes "code") (codes "extFields") (object (texts ps)) ms refl) h.code;
  opaque = rw (kept (codes "opaque") (codes "extFields") (object (texts ps)) ms refl) h.opaque;
  flag = rw (kept (codes "flag") (codes "extFields") (object (texts ps)) ms refl) h.flag;
  version = rw (kept (codes "version") (codes "extFields") (object (texts ps)) ms refl) h.version;
  remark = rw (kept (codes "remark") (codes "extFields") (object (texts ps)) ms refl) h.remark;
  ext = ap pairs_or_none (get_member-put (codes "extFields") (object (texts ps)) ms) ∙ pairs_again ps;
  ordered = ordered;
}

-- a member of another name says nothing here
pub says_other : (f : Found) (k : List ℕ) (d : Data) (ms : Members) → (codes "code" ≡ k → ⊥) → (codes "opaque" ≡ k → ⊥) → (codes "flag" ≡ k → ⊥) → (codes "version" ≡ k → ⊥) → (codes "remark" ≡ k → ⊥) → (codes "extFields" ≡ k → ⊥)
    → Says f ms → Says f (put k d ms)
says_other f k d ms code opaque flag version remark ext h = record {
  code = rw (get_member-put_other (codes "code") k d ms code) h.code;
  opaque = rw (get_member-put_other (codes "opaque") k d ms opaque) h.opaque;
  flag = rw (get_member-put_other (codes "flag") k d ms flag) h.flag;
  version = rw (get_member-put_other (codes "version") k d ms version) h.version;
  remark = rw (get_member-put_other (codes "remark") k d ms remark) h.remark;
  ext = rw (get_member-put_other (codes "extFields") k d ms ext) h.ext;
  ordered = h.ordered;
}

-- ---- numbers of 32 bits

fits_from : (z : ℤ) → is_i32 z ≡ true → FitsSigned w32 z
fits_from (pos n) h = record { sfits = ltb-true n (2 ^ 31) h }
fits_from (negsuc n) h = let below = ltb-true n (2 ^ 31) h in record { sfits = omega arith }

in_range : (y z : ℤ) (b : Bool) → is_i32 y ≡ b → cond b (Some y) None ≡ Some z → FitsSigned w32 z
in_range y z true is e = subst (FitsSigned w32) (same_Some y z e) (fits_from y is)
in_range y z false is e = absurd cc

found_fits : (o : Option ℤ) (z : ℤ) → option_and_then in_i32 o ≡ Some z → FitsSigned w32 z
found_fits None z e = absurd cc
found_fits (Some y) z e = in_range y z (is_i32 y) refl e

pub whole_fits : (d : Data) (z : ℤ) → whole d ≡ Some z → FitsSigned w32 z
unfolding whole
whole_fits d z e = found_fits (option_and_then as_i64 (as_number d)) z e

kept_whole : (o : Option Data) (z : ℤ) → option_and_then whole o ≡ Some z → cast_signed w32 (cast_unsigned w32 z) ≡ z
kept_whole None z e = absurd cc
kept_whole (Some d) z e = to_z-of_z w32 z (whole_fits d z e)

kept_or_zero : (o : Option Data) (z : ℤ) → whole_or_zero o ≡ Some z → cast_signed w32 (cast_unsigned w32 z) ≡ z
kept_or_zero None z e = to_z-of_z w32 z (subst (FitsSigned w32) (same_Some (pos 0) z e) (fits_from (pos 0) refl))
kept_or_zero (Some d) z e = to_z-of_z w32 z (whole_fits d z e)

-- ---- what a member that is taken makes of what was found

-- the tokens begin with a value, and what it says of a member of this name is taken
abbrev Takes : Found → Found → List ℕ → List Token → List Token → Type 0
Takes f g name ts r = (d : Data) × BeginsWith 126 ts d r × ((ms : Members) → Says f ms → Says g (put name d ms))

module _ (f : Found) (z : ℤ) (name : List ℕ) (ts r : List Token) (begins : BeginsWith 126 ts (number (of_integer z)) r) (is : whole (number (of_integer z)) ≡ Some z) where
  same : cast_signed w32 (cast_unsigned w32 z) ≡ z
  same = to_z-of_z w32 z (whole_fits (number (of_integer z)) z is)

  pub code_taken : name ≡ codes "code" → Takes f (record f { code = Some (cast_signed w32 (cast_unsigned w32 z)) }) name ts r
  code_taken named = (number (of_integer z), begins, λ ms says. rw (named, same) (says_code f z (number (of_integer z)) ms is says))

  pub opaque_taken : name ≡ codes "opaque" → Takes f (record f { opaque = Some (cast_signed w32 (cast_unsigned w32 z)) }) name ts r
  opaque_taken named = (number (of_integer z), begins, λ ms says. rw (named, same) (says_opaque f z (number (of_integer z)) ms is says))

  pub flag_taken : name ≡ codes "flag" → Takes f (record f { flag = cast_signed w32 (cast_unsigned w32 z) }) name ts r
  flag_taken named = (number (of_integer z), begins, λ ms says. rw (named, same) (says_flag f z (number (of_integer z)) ms is says))

  pub version_taken : name ≡ codes "version" → Takes f (record f { version = cast_signed w32 (cast_unsigned w32 z) }) name ts r
  version_taken named = (number (of_integer z), begins, λ ms says. rw (named, same) (says_version f z (number (of_integer z)) ms is says))

pub remark_taken : (f : Found) (s name : List ℕ) (ts r : List Token) → BeginsWith 126 ts (string s) r → name ≡ codes "remark" → Takes f (record f { remark = s }) name ts r
remark_taken f s name ts r begins named = (string s, begins, λ ms says. rw named (says_remark f s ms says))

pub ext_taken : (f : Found) (ps : List Pair) (name : List ℕ) (ts r : List Token) → BeginsWith 126 ts (object (texts ps)) r → IsInOrder ps → name ≡ codes "extFields" → Takes f (record f { ext = Some ps }) name ts r
ext_taken f ps name ts r begins ordered named = (object (texts ps), begins, λ ms says. rw named (says_ext f ps ms ordered says))

-- ---- the header

pub ordered_found : (ext : Option (List Pair)) → IfSome ext IsInOrder → IsInOrder (pairs_found ext)
ordered_found None h = none_in_order
ordered_found (Some ps) h = h

pub says_nothing : Says (record { code = None; opaque = None; flag = pos 0; version = pos 0; remark = []; ext = None }) no_members
says_nothing = record { code = tt; opaque = tt; flag = refl; version = refl; remark = refl; ext = refl; ordered = tt }

-- a number as it is kept
abbrev held : ℤ → ℤ
held z = cast_signed w32 (cast_unsigned w32 z)

pub says_header : (f : Found) (ms : Members) (code opaque : ℤ) → f.code ≡ Some code → f.opaque ≡ Some opaque → Says f ms
    → header_of (object ms) ≡ Some (record { code = held code; version = held f.version; opaque = held opaque; flag = held f.flag; remark = f.remark; ext = pairs_found f.ext })
unfolding header_of
says_header f ms code opaque c o h =
    let coded = subst (λ (w : Option ℤ). IfSome w (λ z. option_and_then whole (get_member (codes "code") ms) ≡ Some z)) c h.code in
    let numbered = subst (λ (w : Option ℤ). IfSome w (λ z. option_and_then whole (get_member (codes "opaque") ms) ≡ Some z)) o h.opaque in
    rw (kept_whole (get_member (codes "code") ms) code coded, kept_whole (get_member (codes "opaque") ms) opaque numbered, kept_or_zero (get_member (codes "flag") ms) f.flag h.flag)
    (rw (kept_or_zero (get_member (codes "version") ms) f.version h.version) (rw (coded, numbered, h.flag, h.version, h.remark, h.ext) refl))

-- what was made of the members is the header that the bytes are
pub plain_header : (bytes : List ℕ) (inside : List Token) (f : Found) (ms : Members) (o : Option Head) → IsUtf8 bytes → tokens bytes ≡ begin_object ∷ inside
    → members_behind no_members 126 (length inside) inside ≡ Some (ms, []) → Says f ms → IfSome o (λ h. (all : Members) → Says f all → header_of (object all) ≡ Some h)
    → IfSome o (λ h. json_header bytes ≡ Some h)
plain_header bytes inside f ms None text first found says made = tt
plain_header bytes inside f ms (Some h) text first found says made =
    header_is bytes (object ms) h text (object_begins 127 ms (tokens bytes) inside [] (lit< tt) first found) (made ms says)
