-- The frames of replies, and that their headers are short.
use Rattle.std.proofs.Common.{◌≡◌, ◌∙◌, ℕ, ℤ, pos, negsuc, ◌≤◌, ◌++◌, List, [], ◌∷◌, codes, length, ap, sym, subst, arith, append_assoc, length-append, FitsSigned, w32}
use Rattle.std.proofs.lemmas.Fmt.{length_signed_le}
use Rattle.std.specs.List.Sorted.{IsStrictlySortedBy}
use Rattle.mq_outside.specs.Readings.{Giving}
use Rattle.mq_bytes.specs.Decimal.{decimal}
use Rattle.remoting_frame.specs.Head.{IsInOrder}
use Rattle.remoting_frame.specs.Headers.{front_bytes}
use Rattle.remoting_frame.specs.declared.frame.Form.{Form}
use Rattle.reply_fields.specs.declared.slice.Slice.{Slice}
use Rattle.reply_fields.specs.Parts.{ReplyParts}
use Rattle.reply_fields.specs.Slices.{body_len, IsBody, AppendsBody}
use Rattle.reply_fields.specs.Replies.{reply_head, AppendsReply}
use Rattle.reply_fields.proofs.BodyLemmas.{length-body}

-- a front, and behind it a body of that size, is a whole frame
pub appends-reply : (gives : Giving) (form : Form) (opaque : ℤ) (reply : ReplyParts) (slices : List Slice) (size : ℕ) (old front new : List ℕ) → slices ≡ reply.body → size ≡ body_len slices
    → front ≡ old ++ front_bytes form (reply_head reply opaque) size → AppendsBody gives slices front new → AppendsReply gives form opaque reply old new
appends-reply gives form opaque reply slices size old front new is sized begun added = record {
  body = added.body;
  given = subst (λ (l : List Slice). IsBody gives l added.body) is added.given;
  behind = added.behind ∙ ap (λ (l : List ℕ). l ++ added.body) begun ∙ append_assoc old (front_bytes form (reply_head reply opaque) size) added.body
      ∙ ap (λ (n : ℕ). old ++ (front_bytes form (reply_head reply opaque) n ++ added.body)) (sized ∙ sym (length-body gives slices added.body added.given));
}

pub none_in_order : IsInOrder []
unfolding IsStrictlySortedBy
none_in_order = tt

pub one_in_order : (p : List ℕ × List ℕ) → IsInOrder (p ∷ [])
unfolding IsStrictlySortedBy
one_in_order p = (tt, tt)

-- a code of 32 bits has at most 11 digits
length-code : (code : ℤ) → FitsSigned w32 code → length (decimal code) ≤ 11
length-code (pos n) fits = length_signed_le 10 (pos n) (omega (arith, fits)) (omega (arith, fits))
length-code (negsuc n) fits = length_signed_le 10 (negsuc n) (omega (arith, fits)) (omega (arith, fits))

pub code_is_short : (code : ℤ) → FitsSigned w32 code → length (codes "code " ++ decimal code) ≤ 65536
code_is_short code fits = omega (arith, length-append (codes "code ") (decimal code), length-code code fits)
