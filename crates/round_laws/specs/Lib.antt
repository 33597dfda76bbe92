pub mod OnAreas
