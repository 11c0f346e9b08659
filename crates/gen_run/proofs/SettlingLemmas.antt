-- A reply that has the fields of a send names the message by them.
use Rattle.std.proofs.Common.{◌≡◌, ◌∙◌, ℕ, ◌<◌, ◌^◌, List, pos, codes, Some, ap, sym, arith}
use Rattle.mq_bytes.specs.Decimal.{digits_of}
use Rattle.mq_bytes.specs.Ids.{message_id_of}
use Rattle.mq_bytes.proofs.DecimalLaws.{decimal_value-decimal}
use Rattle.record_codec.specs.Props.{value_of}
use Rattle.reply_fields.specs.Parts.{ReplyParts}
use Rattle.reply_fields.specs.Sent.{sent_fields}
use Rattle.gen_run.specs.Asks.{NamesHalf}

pub names_half : (reply : ReplyParts) (host : List ℕ) (at queue number place queue_offset : ℕ) → reply.ext ≡ sent_fields host at queue number → place ≡ at → queue_offset ≡ number
    → queue_offset < 2 ^ 62 → NamesHalf reply queue_offset place
names_half reply host at queue number place queue_offset is placed numbered low = record {
  id = message_id_of host at;
  host = host;
  number = digits_of number;
  id_is = ap (λ (ps : List (List ℕ × List ℕ)). value_of (codes "msgId") ps) is;
  place_is = ap (λ (n : ℕ). message_id_of host n) (sym placed);
  number_is = ap (λ (ps : List (List ℕ × List ℕ)). value_of (codes "queueOffset") ps) is;
  offset_is = decimal_value-decimal (pos number) (omega (arith, low, numbered)) ∙ ap (λ (n : ℕ). Some (pos n)) (sym numbered);
}
