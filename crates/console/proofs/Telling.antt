-- The row of an event, from what was read of the chart.
use Rattle.std.proofs.Common.{◌≡◌, ℕ, ◌<◌, true, false, ltb, List, [], map, length, get_or, is_some, Some, vec_items, unwrap_or, sym, refl, ap, ◌∙◌, ⊎_elim, arith}
use Rattle.std.proofs.lemmas.List.{length-map}
use Rattle.std.proofs.lemmas.Bool.{cases_Bool, cond-true, cond-false, true≢false, and_parts, ltb-true}
use Rattle.chart.specs.Names.{text_of}
use Rattle.chart.specs.Charted.{line_of, drawn}
use Rattle.chart.specs.Content.{Content, Happening, sent, received, message_of, sender_of, receiver_of, Inside, AllJoin, Post, nobody}
use Rattle.chart.specs.Shown.{content_of, post}
use Rattle.chart.specs.declared.charting.asking.Line.{Line}
use Rattle.chart.specs.declared.names.Name.{Name}
use Rattle.chart.specs.declared.numbers.InstanceId.{InstanceId}
use Rattle.chart.specs.declared.pieces.Message.{Message}
use Rattle.chart.specs.declared.pieces.Parts.{Parts}
use Rattle.chart.specs.declared.pieces.Side.{Side}
use Rattle.chart.specs.declared.pieces.Side.TheVariants as side
use Rattle.chart.proofs.Stored.{mapped_at}
use Rattle.reader.specs.Meaning.{instance_name, message_name}
use Rattle.console.specs.Rows.{Telling, telling_of, row_of, partner_of}

-- an event of the chart, as its line has it
module _ (c : Content) (e : ℕ) (l : Line) (is : Some l ≡ line_of c e) where
  abbrev event : Happening
  event = get_or c.events e (sent 0)

  is_event : ltb e (length c.events) ≡ true
  is_event =
      ⊎_elim (λ (y : ltb e (length c.events) ≡ true). y)
      (λ (n : ltb e (length c.events) ≡ false). absurd (true≢false (ap is_some (is ∙ cond-false _ _ _ n))))
      (cases_Bool (ltb e (length c.events)))

  is_drawn : l ≡ drawn c event
  is_drawn = ap (λ o. unwrap_or o l) (is ∙ cond-true _ _ _ is_event)

drawn_message : (c : Content) (h : Happening) → (drawn c h).message.0 ≡ message_of h
drawn_message c (sent k) = refl
drawn_message c (received k) = refl

module _ (c : Content) (join : AllJoin c) (k : ℕ) (known : k < length c.messages) where
  sender_known : sender_of c k < length c.instances
  sender_known = ltb-true _ _ (and_parts _ _ (join k nobody known)).0

  receiver_known : receiver_of c k < length c.instances
  receiver_known = ltb-true _ _ (and_parts _ _ (and_parts _ _ (join k nobody known)).1).0

module _ (c : Content) (l : Line) (m : Message) where
  -- what a row tells, once its names are looked up
  abbrev told_by : Telling
  told_by = record { instance = instance_name c l.instance.0; side = l.side; message = text_of m.name; partner = instance_name c (partner_of l.side m).0 }

  is_told : (h : Happening) → l ≡ drawn c h → post m ≡ get_or c.messages (message_of h) nobody → told_by ≡ telling_of c h
  is_told (sent k) is same =
      let own : l.instance.0 ≡ sender_of c k = ap (λ (x : Line). x.instance.0) is in
      let out : l.side ≡ side.Out = ap (λ (x : Line). x.side) is in
      let name : text_of m.name ≡ message_name c k = ap (λ (x : Post). x.name) same in
      let other : (partner_of l.side m).0 ≡ receiver_of c k = ap (λ (s : Side). (partner_of s m).0) out ∙ ap (λ (x : Post). x.receiver) same in
      cc
  is_told (received k) is same =
      let own : l.instance.0 ≡ receiver_of c k = ap (λ (x : Line). x.instance.0) is in
      let out : l.side ≡ side.In = ap (λ (x : Line). x.side) is in
      let name : text_of m.name ≡ message_name c k = ap (λ (x : Post). x.name) same in
      let other : (partner_of l.side m).0 ≡ sender_of c k = ap (λ (s : Side). (partner_of s m).0) out ∙ ap (λ (x : Post). x.sender) same in
      cc

  -- both ends are instances of the chart
  ends_known : AllJoin c → (h : Happening) → l ≡ drawn c h → message_of h < length c.messages → post m ≡ get_or c.messages (message_of h) nobody
      → (l.instance.0 < length c.instances) × ((partner_of l.side m).0 < length c.instances)
  ends_known join (sent k) is known same =
      let other = ap (λ (x : Line). (partner_of x.side m).0) is ∙ ap (λ (x : Post). x.receiver) same in
      (omega (arith, sender_known c join k known, ap (λ (x : Line). x.instance.0) is), omega (arith, receiver_known c join k known, other))
  ends_known join (received k) is known same =
      let other = ap (λ (x : Line). (partner_of x.side m).0) is ∙ ap (λ (x : Post). x.sender) same in
      (omega (arith, receiver_known c join k known, ap (λ (x : Line). x.instance.0) is), omega (arith, sender_known c join k known, other))

-- what was read of a chart for the row of event e: its line, its message, and the names of both ends
module _ (p : Parts) (inside : Inside (content_of p)) (join : AllJoin (content_of p)) (e : ℕ) (l : Line) (is : Some l ≡ line_of (content_of p) e) where
  abbrev here : Happening
  here = event (content_of p) e l is

  known : message_of here < length (content_of p).messages
  known = inside e (sent 0) (ltb-true _ _ (is_event (content_of p) e l is))

  number_is : l.message.0 ≡ message_of here
  number_is = ap (λ (k : Line). k.message.0) (is_drawn (content_of p) e l is) ∙ drawn_message (content_of p) here

  pub message_inside : (ms : List Message) → ms ≡ vec_items p.messages → l.message.0 < length ms
  message_inside ms same = omega (arith, known, number_is, ap length same, length-map (vec_items p.messages) post)

  module _ (ms : List Message) (ms_are : ms ≡ vec_items p.messages) (m : Message) (m_is : m ≡ get_or ms l.message.0 m) (i : InstanceId) (i-is : i ≡ partner_of l.side m) (ns : List Name) (ns_are : ns ≡ vec_items p.instances) where
    post_is : post m ≡ get_or (content_of p).messages (message_of here) nobody
    post_is =
        mapped_at post ms l.message.0 m (message_inside ms ms_are) m_is nobody
        ∙ ap (λ (xs : List Message). get_or (map post xs) l.message.0 nobody) ms_are
        ∙ ap (λ k. get_or (content_of p).messages k nobody) number_is

    pub ends_inside : (l.instance.0 < length ns) × (i.0 < length ns)
    ends_inside =
        let ends = ends_known (content_of p) l m join here (is_drawn (content_of p) e l is) known post_is in
        let many = ap length ns_are ∙ sym (length-map (vec_items p.instances) text_of) in
        (omega (arith, ends.0, many), omega (arith, ends.1, many, ap (λ (x : InstanceId). x.0) i-is))

    name_is : (k : ℕ) (x : Name) → k < length ns → x ≡ get_or ns k x → text_of x ≡ instance_name (content_of p) k
    name_is k x low x-is = mapped_at text_of ns k x low x-is [] ∙ ap (λ (xs : List Name). get_or (map text_of xs) k []) ns_are

    pub row_is : (x y : Name) → x ≡ get_or ns l.instance.0 x → y ≡ get_or ns i.0 y
        → Some (record { instance = text_of x; side = l.side; message = text_of m.name; partner = text_of y }) ≡ row_of (content_of p) e
    row_is x y x-is y-is =
        let own = name_is l.instance.0 x ends_inside.0 x-is in
        let other = name_is i.0 y ends_inside.1 y-is ∙ ap (λ (k : InstanceId). instance_name (content_of p) k.0) i-is in
        let told = is_told (content_of p) l m here (is_drawn (content_of p) e l is) post_is in
        let row : ◌≡◌ {A = Telling} (record { instance = text_of x; side = l.side; message = text_of m.name; partner = text_of y }) (telling_of (content_of p) here) = cc in
        ap Some row ∙ sym (cond-true _ _ _ (is_event (content_of p) e l is))
