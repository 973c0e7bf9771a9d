-- How a chart grows line by line, and why a line does not fit.
use Rattle.std.specs.Prelude.{ℕ, Bool, cond, ltb, [], ◌∷◌, ◌++◌, length, Some, None, Ok, Err, count_by, Option, Result, ◌==◌, nat_le, nat_lt}
use Rattle.std.specs.List.{list_all, range_with_len}
use Rattle.chart.specs.Words.{Text}
use Rattle.chart.specs.Content.{sent, received, is_received, Content, message_names}
use Rattle.chart.specs.Lookup.{among}
use Rattle.chart.specs.declared.drafting.InstanceRefusal.{InstanceRefusal}
use Rattle.chart.specs.declared.drafting.InstanceRefusal.TheVariants as instance
use Rattle.chart.specs.declared.drafting.SendRefusal.{SendRefusal}
use Rattle.chart.specs.declared.drafting.SendRefusal.TheVariants as send
use Rattle.chart.specs.declared.drafting.ReceiveRefusal.{ReceiveRefusal}
use Rattle.chart.specs.declared.drafting.ReceiveRefusal.TheVariants as receive

-- a title and one instance, and no line yet
abbrev pub begun : Text → Text → Content
begun title first = record { title = title; instances = first ∷ []; messages = []; events = [] }

abbrev pub with_instance : Content → Text → Content
with_instance c t = record { title = c.title; instances = c.instances ++ t ∷ []; messages = c.messages; events = c.events }

abbrev pub with_message : Content → Text → ℕ → ℕ → Content
with_message c t s r =
    record {
      title = c.title;
      instances = c.instances;
      messages = c.messages ++ record { name = t; sender = s; receiver = r } ∷ [];
      events = c.events ++ sent (length c.messages) ∷ [];
    }

abbrev pub with_receipt : Content → ℕ → Content
with_receipt c m = record { title = c.title; instances = c.instances; messages = c.messages; events = c.events ++ received m ∷ [] }

abbrev pub instance_called : Content → Text → Bool
instance_called c t = among t c.instances

abbrev pub message_called : Content → Text → Bool
message_called c t = among t (message_names c)

abbrev pub times_received : Content → ℕ → ℕ
times_received c m = count_by (is_received m) c.events

-- whether each number below n passes
abbrev pub all_below : (ℕ → Bool) → ℕ → Bool
all_below p n = list_all p (range_with_len 0 n)

abbrev pub all_received : Content → Bool
all_received c = all_below (λ m. ltb 0 (times_received c m)) (length c.messages)

-- the chart, if no message is left to be received
abbrev pub finished : Content → Option Content
finished c = cond (all_received c) (Some c) None

-- one instance more
abbrev pub listed : Content → Text → Result Content InstanceRefusal
listed c t = cond (nat_le 16 (length c.instances)) (Err instance.TooMany) (cond (instance_called c t) (Err instance.NamedTwice) (Ok (with_instance c t)))

-- one message more, with its out event
abbrev pub dispatched : Content → Text → ℕ → ℕ → Result Content SendRefusal
dispatched c t s r =
    cond (message_called c t) (Err send.NamedTwice)
    (cond (nat_le 64 (length c.messages)) (Err send.TooMany)
    (cond (nat_le (length c.instances) s) (Err send.NoSender)
    (cond (nat_le (length c.instances) r) (Err send.NoReceiver)
    (cond (s == r) (Err send.ToItself)
    (Ok (with_message c t s r))))))

-- the in event of a message
abbrev pub delivered : Content → ℕ → Result Content ReceiveRefusal
delivered c m = cond (nat_le (length c.messages) m) (Err receive.NotSent) (cond (nat_lt 0 (times_received c m)) (Err receive.Again) (Ok (with_receipt c m)))

-- what a call answered, with the content that it left
abbrev pub leaving : {X E : Type 0} → Result X E → Content → Result Content E
leaving (Ok x) c = Ok c
leaving (Err e) c = Err e
