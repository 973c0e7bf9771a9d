-- What a title and three lists say.
use Rattle.std.specs.Prelude.{[], map, Some, None, vec_items, Option, Vec}
use Rattle.std.specs.declared.alloc.Global.{Global}
use Rattle.chart.specs.Words.{Text}
use Rattle.chart.specs.Names.{text_of}
use Rattle.chart.specs.Content.{Happening, sent, received, Post, Content}
use Rattle.chart.specs.declared.names.Name.{Name}
use Rattle.chart.specs.declared.pieces.Event.{Event}
use Rattle.chart.specs.declared.pieces.Event.TheVariants.{Out, In}
use Rattle.chart.specs.declared.pieces.Message.{Message}

abbrev pub title_of : Option Name → Text
title_of None = []
title_of (Some n) = text_of n

abbrev pub happening : Event → Happening
happening (Out m) = sent m.0
happening (In m) = received m.0

abbrev pub post : Message → Post
post m = record { name = text_of m.name; sender = m.sender.0; receiver = m.receiver.0 }

abbrev pub kept : Option Name → Vec Name Global → Vec Message Global → Vec Event Global → Content
kept title instances messages events =
    record {
      title = title_of title;
      instances = map text_of (vec_items instances);
      messages = map post (vec_items messages);
      events = map happening (vec_items events);
    }
