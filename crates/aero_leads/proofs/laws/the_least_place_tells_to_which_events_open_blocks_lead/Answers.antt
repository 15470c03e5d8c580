use Rattle.aero_leads.proofs.LedEvents.{led_from, led_to}
use Rattle.aero_leads.proofs.laws.the_least_place_tells_to_which_events_open_blocks_lead.Goals as goal

pub returns : goal.returns
returns c = λ trace n rows p e least ok first below at is_least. (led_from trace n rows p e ok first below at least is_least, led_to trace n rows p e ok first below at least is_least)
