-- Stored parts that were read, as what they say.
use Rattle.std.proofs.Common.{◌≡◌, ℕ, ◌<◌, List, [], ◌∷◌, ◌++◌, map, length, get_or, vec_items, vec_len, Vec, sym, refl, ap, ◌∙◌, arith}
use Rattle.std.specs.List.{position}
use Rattle.std.specs.Str.{bytes_eq}
use Rattle.std.specs.declared.alloc.Global.{Global}
use Rattle.std.proofs.lemmas.List.{get_or-map, length-map, map_push}
use Rattle.chart.specs.Words.{Text}
use Rattle.chart.specs.Lookup.{seek}
use Rattle.chart.specs.Names.{text_of}
use Rattle.chart.specs.Content.{Happening, sent, message_of, message_names, Post, Inside}
use Rattle.chart.proofs.Seeking.{seek_map, seek_position}
use Rattle.chart.specs.Drafting.{with_instance, with_message, with_receipt}
use Rattle.chart.specs.Kept.{kept}
use Rattle.chart.specs.Shown.{title_of, happening, post, content_of}
use Rattle.chart.proofs.Additions.{same_content}
use Rattle.chart.specs.declared.names.Name.{Name}
use Rattle.chart.specs.declared.numbers.MessageId.{MessageId}
use Rattle.chart.specs.declared.pieces.Event.{Event}
use Rattle.chart.specs.declared.pieces.Event.TheVariants.{Out, In}
use Rattle.chart.specs.declared.pieces.Message.{Message}
use Rattle.chart.specs.declared.pieces.Parts.{Parts}

-- an element that was read, seen through a map
pub mapped_at : {X Y : Type 0} (f : X → Y) (xs : List X) (i : ℕ) (x : X) → i < length xs → x ≡ get_or xs i x → (e : Y) → f x ≡ get_or (map f xs) i e
mapped_at f xs i x l is e = ap f is ∙ sym (get_or-map f xs i x e l)

module _ (p : Parts) where
  pub event_count : length (content_of p).events ≡ vec_len p.events
  event_count = length-map (vec_items p.events) happening ∙ sym p.events.ok.0

  pub message_count : length (content_of p).messages ≡ vec_len p.messages
  message_count = length-map (vec_items p.messages) post ∙ sym p.messages.ok.0

  pub instance_count : length (content_of p).instances ≡ vec_len p.instances
  instance_count = length-map (vec_items p.instances) text_of ∙ sym p.instances.ok.0

  -- a lookup among what is stored
  pub seek_instance : (t : Text) → position (λ n. bytes_eq (text_of n) t) (vec_items p.instances) ≡ seek (λ x. x) t (content_of p).instances
  seek_instance t = sym (seek_map (λ x. x) text_of t (vec_items p.instances) ∙ seek_position text_of t (vec_items p.instances))

  pub seek_message : (t : Text) → position (λ m. bytes_eq (text_of m.name) t) (vec_items p.messages) ≡ seek (λ x. x) t (message_names (content_of p))
  seek_message t =
      sym (seek_map (λ x. x) (λ (q : Post). q.name) t (content_of p).messages ∙ seek_map (λ (q : Post). q.name) post t (vec_items p.messages)
      ∙ seek_position (λ (m : Message). text_of m.name) t (vec_items p.messages))

  pub event_at : (i : ℕ) (x : Event) → i < vec_len p.events → x ≡ get_or (vec_items p.events) i x → (e : Happening) → happening x ≡ get_or (content_of p).events i e
  event_at i x l is e = mapped_at happening (vec_items p.events) i x (omega (arith, p.events.ok.0)) is e

  pub message_at : (i : ℕ) (x : Message) → i < vec_len p.messages → x ≡ get_or (vec_items p.messages) i x → (e : Post) → post x ≡ get_or (content_of p).messages i e
  message_at i x l is e = mapped_at post (vec_items p.messages) i x (omega (arith, p.messages.ok.0)) is e

  -- the message of an event that was read
  pub event_inside : Inside (content_of p) → (i : ℕ) (x : Event) → i < vec_len p.events → x ≡ get_or (vec_items p.events) i x → message_of (happening x) < vec_len p.messages
  event_inside within i x l is =
      let here = event_at i x l is (sent 0) in
      let low = within i (sent 0) (omega (arith, event_count)) in
      let same = ap message_of here in
      omega (arith, message_count)

  -- one element more, as what the parts say
  pub with_instance_lem : (v : Vec Name Global) (n : Name) → vec_items v ≡ vec_items p.instances ++ n ∷ [] → kept p.title v p.messages p.events ≡ with_instance (content_of p) (text_of n)
  with_instance_lem v n e = same_content (title_of p.title) (ap (map text_of) e ∙ map_push text_of (vec_items p.instances) n) refl refl

  pub with_message_lem : (v : Vec Message Global) (w : Vec Event Global) (m : Message) (k : MessageId) → vec_items v ≡ vec_items p.messages ++ m ∷ [] → vec_items w ≡ vec_items p.events ++ Out k ∷ [] → k.0 ≡ vec_len p.messages
      → kept p.title p.instances v w ≡ with_message (content_of p) (text_of m.name) m.sender.0 m.receiver.0
  with_message_lem v w m k e f number =
      same_content (title_of p.title) refl
      (ap (map post) e ∙ map_push post (vec_items p.messages) m)
      (ap (map happening) f ∙ map_push happening (vec_items p.events) (Out k) ∙ ap (λ n. map happening (vec_items p.events) ++ sent n ∷ []) (number ∙ sym message_count))

  pub with_receipt_lem : (w : Vec Event Global) (k : MessageId) → vec_items w ≡ vec_items p.events ++ In k ∷ [] → kept p.title p.instances p.messages w ≡ with_receipt (content_of p) k.0
  with_receipt_lem w k f = same_content (title_of p.title) refl refl (ap (map happening) f ∙ map_push happening (vec_items p.events) (In k))
